-- Lists of calls: the invariant holds after each, a front of a legal list is legal, and every list of calls has a run.
use Prim.Native.Nat.{ℕ}
use mathlib.Core.Path.{◌≡◌, refl, sym, ap, ◌∙◌}
use mathlib.Core.Bool.{true, true≢false}
use mathlib.Core.List.{List, [], ◌∷◌, ◌++◌, map}
use native.Mathlib.Omega.{arith}
use Rattle.rules.specs.Store.{Password, State}
use Rattle.rules.specs.Valid.{Valid}
use Rattle.rules.specs.Rights.{delete_cap, op}
use Rattle.rules.specs.Call.{Call, Choice}
use Rattle.rules.specs.Rule.{rule, is_done}
use Rattle.rules.specs.Ledger.{book}
use Rattle.rules.specs.Demand.{Words, FreshWords, Allowed, Now, Step, start, done_at, next, run, Legal, Ended}
use Rattle.rules.specs.Theorems.{AllWords}
use Rattle.rules.proofs.Tests.{by_bool}
use Rattle.rules.proofs.Link.{Linking}
use Rattle.rules.proofs.Steps.{keep-step, link-step}
use Rattle.rules.proofs.Day.{day-step}
use Rattle.rules.proofs.Fresh.{valid-fresh, link-fresh}
use Rattle.rules.proofs.Ended.{ended}
use Rattle.rules.proofs.Choices.{choose}

-- ---- a step keeps the store well formed

pub valid-step : (s : State) (c : Call) (h : Choice) → Valid s → Allowed s c h → Valid (rule s c h).after
valid-step s c h v A =
    let k = keep-step s v.formed c h A in
    record { formed = k.formed; total = omega (arith, k.total, v.total); day = day-step s c h v.day }

-- ---- the invariant of a run

pub record Good (n : Now) : Type 0 where
  pub valid : Valid n.store
  pub link : Linking n.store n.ledger

pub good_start : (supply : ℕ) (p : Password) → FreshWords supply p → Good (start supply p)
unfolding start
good_start supply p W = record { valid = valid-fresh supply p W; link = link-fresh supply p W }

good-next : (n : Now) (x : Step) → Good n → Allowed n.store x.call x.choice → Good (next n x)
unfolding next done_at
good-next n x g A = record {
  valid = valid-step n.store x.call x.choice g.valid A;
  link = link-step n.store g.valid.formed x.call n.ledger g.link x.choice A;
}

pub good-run : (n : Now) (l : List Step) → Good n → Legal n l → Good (run n l)
unfolding run Legal
good-run n [] g p = g
good-run n (x ∷ l) g p = good-run (next n x) l (good-next n x g p.0) p.1

pub legal-front : (n : Now) (l m : List Step) → Legal n (l ++ m) → Legal n l
unfolding Legal
legal-front n [] m p = tt
legal-front n (x ∷ l) m p = (p.0, legal-front (next n x) l m p.1)

-- ---- a done delete of a run

pub ended-next : (n : Now) (x : Step) → Good n → op x.call.number ≡ delete_cap → done_at n x ≡ true
    → Ended n x.call (next n x)
unfolding next done_at
ended-next n x g e d = ended n.store n.ledger g.valid.formed g.link x.call x.choice e d
    (book n.ledger x.call (done_at n x))

-- ---- every list of calls has a run

allowed : (s : State) (c : Call) → Valid s → Words c → (h : Choice) × Allowed s c h
allowed s c v W =
    let z : Choice = record { object = 0; cap = 0 } in
    by_bool (is_done (rule s c z))
    (λ e. let r = choose s c z v.formed e in (r.0, record { words = W; choice = λ q. r.1 }))
    (λ e. (z, record { words = W; choice = λ q. absurd (true≢false (sym q ∙ e)) }))

pub run_of : (n : Now) (calls : List Call) → Valid n.store → AllWords calls
    → (l : List Step) × (map (λ (x : Step). x.call) l ≡ calls) × Legal n l
unfolding Legal AllWords next
run_of n [] v w = ([], refl, tt)
run_of n (c ∷ calls) v w =
    let h = allowed n.store c v w.0 in
    let x : Step = record { call = c; choice = h.0 } in
    let r = run_of (next n x) calls (valid-step n.store c h.0 v h.1) w.1 in
    (x ∷ r.0, ap (λ (y : List Call). c ∷ y) r.1, (h.1, r.2))
