-- Every call, done or refused: what it leaves is well formed, has the money total, and stands beside its ledger.
use Prim.Native.Nat.{ℕ}
use mathlib.Core.Path.{◌≡◌, refl, sym, ap, ap₂, ◌∙◌, subst}
use mathlib.Core.Logic.{◌≢◌}
use mathlib.Core.Bool.{true, false, ◌&&◌, true≢false}
use lib.Dec.{eqb}
use borrow.Author.Tests.{ne_eqb}
use Rattle.rules.specs.Store.{State, cap_lives}
use Rattle.rules.specs.Valid.{Formed}
use Rattle.rules.specs.Rights.{Op, make_obj, read, write, cap_info, derive_cap, delete_cap, rename_obj, withdraw}
use Rattle.rules.specs.Rights.{deposit, suspend, resume, apply_lock, send, receive, wait, revive, unknown, op}
use Rattle.rules.specs.Rights.{fee_of, asked, presents, day_number}
use Rattle.rules.specs.Call.{Call, Outcome, Choice, code, done}
use Rattle.rules.specs.Password.{presented}
use Rattle.rules.specs.Refusals.{first, caller, early}
use Rattle.rules.specs.Update.{with_house, with_day, with_cash, with_marks, with_cap, with_money}
use Rattle.rules.specs.Changes.{spend, to_house, set_terminated, end_where}
use Rattle.rules.specs.Calls.{emptied}
use Rattle.rules.specs.Rule.{stopped, paid, late, day_refuses, day_rule, rule, is_done}
use Rattle.rules.specs.Ledger.{Ledger, found, new_line, entry, book}
use Rattle.rules.specs.Demand.{FreeObject, FreeCap, Open, Allowed}
use Rattle.rules.proofs.Tests.{by_bool, pick-not}
use Rattle.rules.proofs.Sound.{Kept, kept_same, kept-day, kept_then}
use Rattle.rules.proofs.Link.{Linking, num-some}
use Rattle.rules.proofs.Presenting.{found-num}
use Rattle.rules.proofs.Ready.{payer, stopper, slot_of, ready}
use Rattle.rules.proofs.Outcomes.{host-op, host-presents, stopped_by, done-out, rule-by, day-by}
use Rattle.rules.proofs.Keeping.{keep-fee, keep-mark}
use Rattle.rules.proofs.Answers.{refused-not, is-done}
use Rattle.rules.proofs.Done.{Takes, keeps, links}

-- ---- the ledger's entry: a call that presents a capability books at the line found, another at none

module _ (l : Ledger) (c : Call) (n : ℕ) where
  entry-same : (o : Op) → presents o ≡ false → (m : ℕ) → entry l c m o ≡ entry l c n o
  unfolding presents entry new_line
  entry-same make_obj e m = refl
  entry-same read e m = absurd (true≢false e)
  entry-same write e m = absurd (true≢false e)
  entry-same cap_info e m = absurd (true≢false e)
  entry-same derive_cap e m = absurd (true≢false e)
  entry-same delete_cap e m = absurd (true≢false e)
  entry-same rename_obj e m = absurd (true≢false e)
  entry-same withdraw e m = absurd (true≢false e)
  entry-same deposit e m = absurd (true≢false e)
  entry-same suspend e m = absurd (true≢false e)
  entry-same resume e m = absurd (true≢false e)
  entry-same apply_lock e m = absurd (true≢false e)
  entry-same send e m = absurd (true≢false e)
  entry-same receive e m = refl
  entry-same wait e m = refl
  entry-same revive e m = absurd (true≢false e)
  entry-same unknown e m = refl

  booked : (presents (op c.number) ≡ true → (found l c.caller c.presented ≡ n) × (n ≢ 0))
      → book l c true ≡ entry l c n (op c.number)
  unfolding book
  booked f =
      let o : Op = op c.number in
      let m : ℕ = found l c.caller c.presented in
      let pick : (presents o && eqb m 0) ≡ false → book l c true ≡ entry l c m o =
      pick-not (presents o && eqb m 0) l (entry l c m o) in
      by_bool (presents o)
      (λ p.
      let w = f p in
      pick (ap₂ (λ a b. a && b) p (ne_eqb m 0 (λ z. w.1 (sym w.0 ∙ z)))) ∙ ap (λ x. entry l c x o) w.0)
      (λ p. pick (ap (λ a. a && eqb m 0) p) ∙ entry-same o p m)

-- ---- a step

-- the fee changes no slot that is asked for
pub open-takes : (s : State) (c : Call) (h : Choice) → Open s c h
    → Takes (paid s c) c (caller s c) (slot_of s c) h (op c.number)
unfolding paid to_house spend with_cash with_house FreeObject FreeCap cap_lives emptied end_where with_money with_cap
    presented
open-takes s c h q = record { object = q.object; made = q.made; derived = q.derived; renamed = q.renamed }

pub takes-open : (s : State) (c : Call) (h : Choice) → Takes (paid s c) c (caller s c) (slot_of s c) h (op c.number)
    → Open s c h
unfolding paid to_house spend with_cash with_house FreeObject FreeCap cap_lives emptied end_where with_money with_cap
    presented
takes-open s c h q = record { object = q.object; made = q.made; derived = q.derived; renamed = q.renamed }

module _ (s : State) (G : Formed s) (c : Call) where
  pub keep-paid : early s c ≡ 0 → Kept s (paid s c)
  unfolding paid
  keep-paid e = let p = payer s c G.objects e in keep-fee s G (caller s c) p.0 (fee_of c.number) p.1

  keep-stopped : Kept s (stopped s c (early s c))
  unfolding set_terminated
  keep-stopped = stopped_by s c (Kept s) (λ e. keep-mark s G (caller s c) (stopper s c G.objects e) _) (kept_same G)

  -- the day is no part of what is kept
  keep-day : Kept s (day_rule s c).after
  unfolding done
  keep-day = day-by s c (λ r. Kept s r.after) (λ _. kept_same G) (λ _. kept-day G c.day)

  pub keep-step : (h : Choice) → Allowed s c h → Kept s (rule s c h).after
  keep-step h A = rule-by s c h (λ r. (is_done r ≡ true → Open s c h) → Kept s r.after)
      (λ _ q. keep-day)
      (λ _ n q. keep-stopped)
      (λ _ e n q. keep-paid e)
      (λ _ e f q.
      let P = keep-paid e in
      kept_then P (keeps (paid s c) P.formed c (caller s c) (slot_of s c) h A.words (op c.number)
      (ready s c G.objects e f) (open-takes s c h (q (is-done s c h e)))))
      A.choice

  -- ---- the ledger beside it

  module _ (l : Ledger) (K : Linking s l) where
    link-stopped : Linking (stopped s c (early s c)) l
    unfolding set_terminated with_marks
    link-stopped = stopped_by s c (λ r. Linking r l) (λ e. K) K

    -- the line found is the line of the capability presented
    pub line-found : early s c ≡ 0 → late (paid s c) c (slot_of s c) ≡ 0 → presents (op c.number) ≡ true
        → found l c.caller c.presented ≡ K.num (slot_of s c)
    unfolding paid to_house spend with_cash with_house
    line-found e f p =
        let r = ready s c G.objects e f in
        found-num (paid s c) l (keep-paid e).formed K c.caller (caller s c) r.who.live r.name
        c.presented (slot_of s c) (r.shown p)

    booked-done : early s c ≡ 0 → late (paid s c) c (slot_of s c) ≡ 0
        → book l c true ≡ entry l c (K.num (slot_of s c)) (op c.number)
    unfolding paid to_house spend with_cash with_house
    booked-done e f = booked l c (K.num (slot_of s c)) (λ p.
        let S = (ready s c G.objects e f).shown p in
        (line-found e f p, num-some s l G K (slot_of s c) S.lives))

    -- what is booked for an outcome
    abbrev Beside : Outcome → Type 0
    Beside r = Linking r.after (book l c (is_done r))

    beside-refused : (n : ℕ) (r : State) → n ≢ 0 → Linking r l → Beside (record { answer = code n; after = r })
    unfolding book
    beside-refused n r d L = subst (Linking r) (sym (ap (book l c) (refused-not n r d))) L

    -- call 17 books nothing
    beside-day : c.number ≡ day_number → Beside (day_rule s c)
    unfolding done code is_done with_day book presents asked entry
    beside-day z = day-by s c Beside (λ n. beside-refused (first (day_refuses s c.day)) s n K)
        (λ _. subst (Linking s) (sym (booked l c 0 (λ p. absurd (host-presents c.number z p)) ∙ ap (entry l c 0) (host-op c.number z))) K)

    pub link-step : (h : Choice) → Allowed s c h → Linking (rule s c h).after (book l c (is_done (rule s c h)))
    unfolding paid to_house spend with_cash with_house
    link-step h A = rule-by s c h (λ r. (is_done r ≡ true → Open s c h) → Beside r)
        (λ z q. beside-day z)
        (λ _ n q. beside-refused (early s c) (stopped s c (early s c)) n link-stopped)
        (λ _ e n q. beside-refused (late (paid s c) c (slot_of s c)) (paid s c) n K)
        (λ _ e f q.
        let L = links (paid s c) (keep-paid e).formed c (caller s c) (slot_of s c) h A.words l K (op c.number)
        (ready s c G.objects e f) (open-takes s c h (q (is-done s c h e))) in
        subst (Linking (done-out s c h).after) (sym (ap (book l c) (is-done s c h e) ∙ booked-done e f)) L)
        A.choice
