-- The rule by its outcomes. A process's call is refused by 2 to 4, refused after the fee, or done; call 17 is refused or done.
use Prim.Native.Nat.{ℕ, ◌≤◌}
use mathlib.Core.Path.{◌≡◌, refl, sym, ap, ◌∙◌, subst}
use mathlib.Core.Logic.{◌≢◌}
use mathlib.Core.Bool.{Bool, true, false, false≢true}
use lib.Dec.{eqb, ltb}
use borrow.Author.Tests.{eqb-true, eq-eqb, ne_eqb, ltb-false}
use native.Mathlib.Omega.{arith}
use Rattle.rules.specs.Limit as Limit
use Rattle.rules.specs.Code as Code
use Rattle.rules.specs.Store.{State, object_named}
use Rattle.rules.specs.Rights.{Op, make_obj, read, write, cap_info, derive_cap, delete_cap, rename_obj, withdraw}
use Rattle.rules.specs.Rights.{deposit, suspend, resume, apply_lock, send, receive, wait, revive, unknown, op}
use Rattle.rules.specs.Rights.{day_number, asked, presents}
use Rattle.rules.specs.Call.{Call, Outcome, Choice, code, done}
use Rattle.rules.specs.Refusals.{◌when◌, first, caller, early}
use Rattle.rules.specs.Update.{with_house, with_cash, with_day}
use Rattle.rules.specs.Changes.{spend, to_house, set_terminated}
use Rattle.rules.specs.Calls.{does}
use Rattle.rules.specs.Rule.{stopped, paid, late, on_paid, process_rule, day_refuses, day_rule, rule}
use Rattle.rules.specs.Demand.{Open}
use Rattle.rules.proofs.Tests.{by-eq, by_bool, pick_yes, pick-not, pick-by}
use Rattle.rules.proofs.Ready.{slot_of}

-- ---- call 17 is no call of a process

abbrev pub of_process : Op → Bool
of_process make_obj = true
of_process read = true
of_process write = true
of_process cap_info = true
of_process derive_cap = true
of_process delete_cap = true
of_process rename_obj = true
of_process withdraw = true
of_process deposit = true
of_process suspend = true
of_process resume = true
of_process apply_lock = true
of_process send = true
of_process receive = true
of_process wait = true
of_process revive = true
of_process unknown = false

pub host-op : (n : ℕ) → n ≡ day_number → op n ≡ unknown
unfolding op
host-op n e = rw e refl

pub host-not : {o : Op} (n : ℕ) → n ≡ day_number → op n ≡ o → of_process o ≡ true → ⊥
host-not n e q k = false≢true (sym (ap of_process (host-op n e)) ∙ ap of_process q ∙ k)

pub host-presents : (n : ℕ) → n ≡ day_number → presents (op n) ≡ true → ⊥
unfolding presents asked
host-presents n e p = false≢true (sym (ap presents (host-op n e)) ∙ p)

-- it takes no slot
pub host-open : (s : State) (c : Call) (h : Choice) → c.number ≡ day_number → Open s c h
host-open s c h e = record {
  object = λ q. absurd (host-not c.number e q refl);
  made = λ q. absurd (host-not c.number e q refl);
  derived = λ q. absurd (host-not c.number e q refl);
  renamed = λ q. absurd (host-not c.number e q refl);
}

-- what 2, 3 and 4 leave: with 4 the caller is marked, else nothing changes
pub stopped_by : (s : State) (c : Call) (P : State → Type 0)
    → (early s c ≡ 4 → P (set_terminated s (caller s c) true)) → P s → P (stopped s c (early s c))
unfolding stopped
stopped_by s c P a b =
    pick-by P (eqb (early s c) 4) (set_terminated s (caller s c) true) s (λ e. a (eqb-true _ _ e)) (λ _. b)

module _ (s : State) (c : Call) where
  -- refused by 2 to 4
  abbrev pub early-out : Outcome
  early-out = record { answer = code (early s c); after = stopped s c (early s c) }

  -- refused after the fee
  abbrev pub late-out : Outcome
  late-out = record { answer = code (late (paid s c) c (slot_of s c)); after = paid s c }

  -- done
  abbrev pub done-out : Choice → Outcome
  done-out h = does (paid s c) c (caller s c) (slot_of s c) h (op c.number)

  module _ (h : Choice) where
    -- ---- a process's call

    module _ (process : c.number ≢ day_number) where
      pub rule-process : rule s c h ≡ process_rule s c h
      unfolding rule
      rule-process = pick-not (eqb c.number day_number) (day_rule s c) (process_rule s c h) (ne_eqb c.number day_number process)

      pub rule-early : early s c ≢ 0 → rule s c h ≡ early-out
      unfolding process_rule
      rule-early n =
          rule-process
          ∙ pick-not (eqb (early s c) 0) (on_paid (paid s c) c (slot_of s c) h) early-out (ne_eqb (early s c) 0 n)

      rule-paid : early s c ≡ 0 → rule s c h ≡ on_paid (paid s c) c (slot_of s c) h
      unfolding process_rule
      rule-paid e =
          rule-process
          ∙ pick_yes (eqb (early s c) 0) (on_paid (paid s c) c (slot_of s c) h) early-out (eq-eqb (early s c) 0 e)

      pub rule-late : early s c ≡ 0 → late (paid s c) c (slot_of s c) ≢ 0 → rule s c h ≡ late-out
      unfolding on_paid paid to_house spend with_cash with_house caller object_named
      rule-late e n =
          let m : ℕ = late (paid s c) c (slot_of s c) in
          rule-paid e ∙ pick-not (eqb m 0) (done-out h) late-out (ne_eqb m 0 n)

      pub rule-done : early s c ≡ 0 → late (paid s c) c (slot_of s c) ≡ 0 → rule s c h ≡ done-out h
      unfolding on_paid paid to_house spend with_cash with_house caller object_named
      rule-done e f =
          let m : ℕ = late (paid s c) c (slot_of s c) in
          rule-paid e ∙ pick_yes (eqb m 0) (done-out h) late-out (eq-eqb m 0 f)

    -- ---- call 17

    pub rule-host : c.number ≡ day_number → rule s c h ≡ day_rule s c
    unfolding rule
    rule-host e = pick_yes (eqb c.number day_number) (day_rule s c) (process_rule s c h) (eq-eqb c.number day_number e)

    -- ---- any call

    pub rule-by : (P : Outcome → Type 0)
        → (c.number ≡ day_number → P (day_rule s c))
        → (c.number ≢ day_number → early s c ≢ 0 → P early-out)
        → (c.number ≢ day_number → early s c ≡ 0 → late (paid s c) c (slot_of s c) ≢ 0 → P late-out)
        → (c.number ≢ day_number → early s c ≡ 0 → late (paid s c) c (slot_of s c) ≡ 0 → P (done-out h))
        → P (rule s c h)
    rule-by P host a b d = by-eq c.number day_number
        (λ q. subst P (sym (rule-host q)) (host q))
        (λ p. by-eq (early s c) 0
        (λ e. by-eq (late (paid s c) c (slot_of s c)) 0
        (λ f. subst P (sym (rule-done p e f)) (d p e f))
        (λ n. subst P (sym (rule-late p e n)) (b p e n)))
        (λ n. subst P (sym (rule-early p n)) (a p n)))

  -- ---- call 17 by its outcomes

  abbrev pub day-out : Outcome
  day-out = record { answer = code (first (day_refuses s c.day)); after = s }

  pub day-refused : first (day_refuses s c.day) ≢ 0 → day_rule s c ≡ day-out
  unfolding day_rule
  day-refused n = pick-not (eqb (first (day_refuses s c.day)) 0) (done (with_day s c.day)) day-out (ne_eqb _ 0 n)

  pub day-done : first (day_refuses s c.day) ≡ 0 → day_rule s c ≡ done (with_day s c.day)
  unfolding day_rule
  day-done e = pick_yes (eqb (first (day_refuses s c.day)) 0) (done (with_day s c.day)) day-out (eq-eqb _ 0 e)

  pub day-by : (P : Outcome → Type 0)
      → (first (day_refuses s c.day) ≢ 0 → P day-out)
      → (first (day_refuses s c.day) ≡ 0 → P (done (with_day s c.day)))
      → P (day_rule s c)
  day-by P a b = by-eq (first (day_refuses s c.day)) 0
      (λ e. subst P (sym (day-done e)) (b e)) (λ n. subst P (sym (day-refused n)) (a n))

  -- it never answers 4
  pub day-not-four : first (day_refuses s c.day) ≢ Code.cannot_pay
  unfolding day_refuses first ◌when◌
  day-not-four z = by_bool (ltb Limit.day c.day)
      (λ e. omega (arith, rw e at z))
      (λ e. by_bool (ltb c.day s.day) (λ f. omega (arith, rw (e, f) at z)) (λ f. omega (arith, rw (e, f) at z)))

  -- where it is done the new day is in its range, and not before the store's
  pub day-fits : first (day_refuses s c.day) ≡ 0 → (c.day ≤ Limit.day) × (s.day ≤ c.day)
  unfolding day_refuses first ◌when◌
  day-fits z = by_bool (ltb Limit.day c.day)
      (λ e. absurd (omega (arith, rw e at z)))
      (λ e. by_bool (ltb c.day s.day)
      (λ f. absurd (omega (arith, rw (e, f) at z)))
      (λ f. (ltb-false Limit.day c.day e, ltb-false c.day s.day f)))
