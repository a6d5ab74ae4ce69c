-- From the invariant to demand 3's claim of a done delete: it ended the capability presented and those derived from it.
use Prim.Native.Nat.{ℕ}
use mathlib.Core.Path.{◌≡◌, refl, sym, ap, ◌∙◌, subst}
use mathlib.Core.Bool.{Bool, true, not}
use lib.Dec.{eqb}
use Rattle.rules.specs.Store.{Cap, State, no_cap, path, descends, cap_lives}
use Rattle.rules.specs.Valid.{Lives, Formed}
use Rattle.rules.specs.Rights.{delete_cap, op, presents}
use Rattle.rules.specs.Call.{Call, Choice, done}
use Rattle.rules.specs.Password.{presented}
use Rattle.rules.specs.Refusals.{caller}
use Rattle.rules.specs.Update.{with_house, with_cash, with_cap, with_money}
use Rattle.rules.specs.Changes.{spend, to_house, end_where, new_object, end_object}
use Rattle.rules.specs.Calls.{deleted, delete_cap_does, does}
use Rattle.rules.specs.Rule.{paid, rule, is_done}
use Rattle.rules.specs.Ledger.{Ledger, found}
use Rattle.rules.specs.Demand.{Now, Match, Ended}
use Rattle.rules.proofs.Tests.{by_bool, lives, does-live}
use Rattle.rules.proofs.Link.{Linking}
use Rattle.rules.proofs.Ending.{end-cap, stay-cap, stay-money, not-ended, still}
use Rattle.rules.proofs.Ready.{ready}
use Rattle.rules.proofs.Deleting.{delete-by}
use Rattle.rules.proofs.Outcomes.{host-not}
use Rattle.rules.proofs.Answers.{done-by}
use Rattle.rules.proofs.Steps.{line-found}
use Rattle.rules.proofs.Claims.{match-lives, num-match, match-leads}

-- what is left of the capabilities and moneywords of s where that at k and its descendants ended
record Cut (s : State) (k : ℕ) (r : State) : Type 0 where
  cap : r.cap ≡ (end_where s (λ i. descends s i k)).cap
  money : r.money ≡ (end_where s (λ i. descends s i k)).money

-- the fee changes neither
cut-delete : (s : State) (c : Call) (k : ℕ) → Cut s k (delete_cap_does (paid s c) c (caller s c) k).after
unfolding done to_house with_house end_object new_object deleted end_where with_money with_cap paid spend with_cash descends
    path
cut-delete s c k = delete-by (paid s c) c (caller s c) k (λ r. Cut s k r.after)
    (λ z. record { cap = refl; money = refl }) (λ d. record { cap = refl; money = refl })

module _ (s : State) (l : Ledger) (G : Formed s) (K : Linking s l) (c : Call) where
  abbrev n : Now
  n = record { store = s; ledger = l }

  -- the capability presented, and the line found
  abbrev k : ℕ
  k = presented s (caller s c) c.presented

  abbrev line : ℕ
  line = found l c.caller c.presented

  abbrev t : ℕ → Bool
  t i = descends s i k

  -- what a done delete tells of what it leaves, r
  record Found (r : State) : Type 0 where
    alive : Lives s.cap k
    its : line ≡ K.num k
    cut : Cut s k r

  found-delete : (h : Choice) → op c.number ≡ delete_cap → is_done (rule s c h) ≡ true → Found (rule s c h).after
  unfolding paid to_house spend with_cash with_house presented cap_lives does presents
  found-delete h q = done-by s c h (λ r. Found r.after) (λ z. host-not c.number z q refl) (λ e f.
      let p : presents (op c.number) ≡ true = ap presents q in
      record {
        alive = ((ready s c G.objects e f).shown p).lives;
        its = line-found s G c l K e f p;
        cut = subst (λ o. Cut s k (does (paid s c) c (caller s c) k h o).after) (sym q) (cut-delete s c k);
      })

  module _ (r : State) (F : Found r) where
    lives-as : (i : ℕ) → cap_lives r i ≡ cap_lives (end_where s t) i
    unfolding cap_lives
    lives-as i = ap (λ (f : ℕ → Cap). not (eqb (f i).object 0)) F.cut.cap

    lives-on : (i : ℕ) → Lives s.cap i → cap_lives (end_where s t) i ≡ not (t i)
    unfolding cap_lives no_cap
    lives-on i g = by_bool (t i)
        (λ e. ap (λ (x : Cap). not (eqb x.object 0)) (end-cap s t i e) ∙ ap not (sym e))
        (λ e. does-live (end_where s t) i (still s t i g e) ∙ ap not (sym e))

    ended-found : (m : Ledger) → Ended n c (record { store = r; ledger = m })
    ended-found m =
        let its-match : Match n k line = subst (Match n k) (sym F.its) (num-match s l G K k F.alive) in
        record {
          same = its-match;
          exactly = λ i j w.
              lives-as i
              ∙ lives-on i (match-lives s l G K i j w)
              ∙ ap not (sym (match-leads s l G K k i line j its-match w));
          others = λ i g.
              let e = not-ended s t i (lives (end_where s t) i (sym (lives-as i) ∙ g)) in (
                ap (λ (f : ℕ → Cap). f i) F.cut.cap ∙ stay-cap s t i e,
                ap (λ (f : ℕ → ℕ). f i) F.cut.money ∙ stay-money s t i e,
              );
        }

  pub ended : (h : Choice) → op c.number ≡ delete_cap → is_done (rule s c h) ≡ true → (m : Ledger)
      → Ended (record { store = s; ledger = l }) c (record { store = (rule s c h).after; ledger = m })
  ended h q d m = ended-found (rule s c h).after (found-delete h q d) m
