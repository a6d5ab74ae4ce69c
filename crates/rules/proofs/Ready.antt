-- What is known where a call is done: no refusal is met.
use Prim.Native.Nat.{ℕ, ◌≤◌, ◌<◌}
use mathlib.Core.Path.{◌≡◌, refl, sym, ap, ◌∙◌, subst}
use mathlib.Core.Logic.{◌≢◌}
use mathlib.Core.Bool.{Bool, true, false, not, ◌&&◌, ◌||◌, true≢false}
use mathlib.Core.List.{List, [], ◌∷◌, ◌++◌}
use native.Mathlib.Omega.{arith}
use lib.Dec.{leb, ltb}
use borrow.Author.Tests.{eqb-false, leb-true, ltb-true, ltb-false}
use Rattle.rules.specs.Store.{Marks, State, object_named}
use Rattle.rules.specs.Valid.{Objects}
use Rattle.rules.specs.Rights.{Op, make_obj, read, write, cap_info, derive_cap, delete_cap, rename_obj}
use Rattle.rules.specs.Rights.{withdraw, deposit, suspend, resume, apply_lock, send, receive, wait, revive}
use Rattle.rules.specs.Rights.{unknown, op, fee_of, asked, presents}
use Rattle.rules.specs.Call.{Call}
use Rattle.rules.specs.Code as Code
use Rattle.rules.specs.Password.{presented}
use Rattle.rules.specs.Refusals.{Refusal, ◌when◌, first, name_fits, arguments_fit, in_range, caller, running}
use Rattle.rules.specs.Refusals.{early, showing, presenting}
use Rattle.rules.specs.Update.{with_house, with_cash}
use Rattle.rules.specs.Changes.{spend, to_house}
use Rattle.rules.specs.Calls.{make_obj_refuses, transfer_refuses, derive_cap_refuses, rename_obj_refuses}
use Rattle.rules.specs.Calls.{withdraw_refuses, deposit_refuses, process_refuses, send_refuses, receive_refuses}
use Rattle.rules.specs.Calls.{revive_refuses, refuses}
use Rattle.rules.specs.Rule.{paid, late}
use Rattle.rules.proofs.Tests.{by_bool, all2, all3, none2, not-is-true, not-is-false, pick_yes, pick-not}
use Rattle.rules.proofs.Presenting.{Process, named, Shown, shown}

-- ---- refusals in order

-- no refusal of the list is met
abbrev pub Unmet : List Refusal → Type 0
Unmet [] = Unit {0}
Unmet (r ∷ l) = (r.met ≡ false) × Unmet l

-- each has a number that passes the test
unfoldable pub numbers : (ℕ → Bool) → List Refusal → Bool
numbers t [] = true
numbers t (r ∷ l) = t r.number && numbers t l

-- where the first that is met is n, one with another number is not met
first-skip : (r : Refusal) (l : List Refusal) (n : ℕ) → first (r ∷ l) ≡ n → r.number ≢ n
    → (r.met ≡ false) × (first l ≡ n)
unfolding first
first-skip r l n e h = by_bool r.met
    (λ q. absurd (h (sym (pick_yes r.met r.number (first l) q) ∙ e)))
    (λ q. (q, sym (pick-not r.met r.number (first l) q) ∙ e))

-- where 0 has none of these numbers, and the first that is met is 0, none is met
pub none-met : (t : ℕ → Bool) (l : List Refusal) → t 0 ≡ false → numbers t l ≡ true → first l ≡ 0 → Unmet l
unfolding numbers
none-met t [] z e f = tt
none-met t (r ∷ l) z e f =
    let d = all2 (t r.number) (numbers t l) e in
    let g = first-skip r l 0 f (λ q. true≢false (sym d.0 ∙ ap t q ∙ z)) in
    (g.0, none-met t l z d.1 g.1)

-- the first that is met is one of them
pub first-in : (t : ℕ → Bool) (l : List Refusal) → numbers t l ≡ true → first l ≢ 0 → t (first l) ≡ true
unfolding numbers first
first-in t [] e h = absurd (h refl)
first-in t (r ∷ l) e h =
    let d = all2 (t r.number) (numbers t l) e in
    by_bool r.met
    (λ q. ap t (pick_yes r.met r.number (first l) q) ∙ d.0)
    (λ q.
    let f = pick-not r.met r.number (first l) q in
    ap t f ∙ first-in t l d.1 (λ z. h (f ∙ z)))

unmet-append : (a b : List Refusal) → Unmet (a ++ b) → Unmet a × Unmet b
unmet-append [] b h = (tt, h)
unmet-append (r ∷ a) b h = let g = unmet-append a b h.1 in ((h.0, g.0), g.1)

-- of two lists one after the other, the first that is met
pub first-front : (a b : List Refusal) → first a ≢ 0 → first (a ++ b) ≡ first a
unfolding first
first-front [] b h = absurd (h refl)
first-front (r ∷ a) b h = by_bool r.met
    (λ q. pick_yes r.met r.number (first (a ++ b)) q ∙ sym (pick_yes r.met r.number (first a) q))
    (λ q.
    let f = pick-not r.met r.number (first a) q in
    pick-not r.met r.number (first (a ++ b)) q ∙ first-front a b (λ z. h (f ∙ z)) ∙ sym f)

pub first-append : (a b : List Refusal) → Unmet a → first (a ++ b) ≡ first b
unfolding first
first-append [] b h = refl
first-append (r ∷ a) b h = pick-not r.met r.number (first (a ++ b)) h.0 ∙ first-append a b h.1

-- ---- 2, 3 and 4

module _ (s : State) (c : Call) where
  abbrev earlies : List Refusal
  earlies =
      Code.out_of_range when not (in_range c)
      ∷ Code.not_running when not (running s (caller s c))
      ∷ Code.cannot_pay when ltb (s.cash (caller s c)) (fee_of c.number)
      ∷ []

  pub early-none : early s c ≡ 0
      → (in_range c ≡ true) × (running s (caller s c) ≡ true) × (fee_of c.number ≤ s.cash (caller s c))
  unfolding early ◌when◌ numbers
  early-none e =
      let u = none-met (λ n. ltb 1 n) earlies refl refl e in
      (not-is-false (in_range c) u.0, not-is-false (running s (caller s c)) u.1.0, ltb-false _ _ u.1.1.0)

  pub early-low : early s c ≢ 0 → early s c ≤ 4
  unfolding early ◌when◌ numbers
  early-low h = leb-true _ _ (first-in (λ n. leb n 4) earlies refl h)

  -- 4 is met only where the caller runs
  early-four : early s c ≡ Code.cannot_pay → running s (caller s c) ≡ true
  unfolding early ◌when◌
  early-four e =
      let l : List Refusal = Code.cannot_pay when ltb (s.cash (caller s c)) (fee_of c.number) ∷ [] in
      let f = first-skip (Code.out_of_range when not (in_range c)) (Code.not_running when not (running s (caller s c)) ∷ l) Code.cannot_pay e (λ z. omega arith) in
      let g = first-skip (Code.not_running when not (running s (caller s c))) l Code.cannot_pay f.1 (λ z. omega arith) in
      not-is-false (running s (caller s c)) g.0

  -- the caller that runs is a living process of its name
  runner : Objects s.object → running s (caller s c) ≡ true
      → Process s.object (caller s c) × ((s.object (caller s c)).name ≡ c.caller)
  unfolding running caller
  runner O e =
      let me : ℕ = object_named s c.caller in
      let f = all3 (s.object me).live (s.object me).process
      (not ((s.marks me).suspended || (s.marks me).waiting || (s.marks me).terminated)) e in
      let w = (O.live me f.0).some in
      (record { live = f.0; process = f.1 }, named s c.caller (omega arith))

  -- and does not wait
  pub not-waiting : early s c ≡ 0 → (s.marks (caller s c)).waiting ≡ false
  unfolding running
  not-waiting e =
      let me : ℕ = caller s c in
      let m : Marks = s.marks me in
      let f = all3 (s.object me).live (s.object me).process
      (not (m.suspended || m.waiting || m.terminated)) (early-none e).1 in
      let u = none2 (m.suspended || m.waiting) m.terminated (not-is-true _ f.2) in
      (none2 m.suspended m.waiting u.0).1

  -- the caller that pays, and the one that refusal 4 marks
  pub payer : Objects s.object → early s c ≡ 0
      → Process s.object (caller s c) × (fee_of c.number ≤ s.cash (caller s c))
  payer O e = let a = early-none e in ((runner O a.1).0, a.2)

  pub stopper : Objects s.object → early s c ≡ Code.cannot_pay → Process s.object (caller s c)
  stopper O e = (runner O (early-four e)).0

-- ---- 5, 19 and 6

module _ (s : State) (k : ℕ) (o : Op) where
  pub presenting-some : presents o ≡ true → presenting s k o ≡ showing s k (asked o)
  unfolding presenting
  presenting-some p = pick_yes (presents o) (showing s k (asked o)) [] p

  pub presenting-none : presents o ≡ false → presenting s k o ≡ []
  unfolding presenting
  presenting-none p = pick-not (presents o) (showing s k (asked o)) [] p

  presenting-numbers : numbers (λ n. ltb 4 n) (presenting s k o) ≡ true
  unfolding numbers showing ◌when◌
  presenting-numbers = by_bool (presents o)
      (λ p. ap (numbers (λ n. ltb 4 n)) (presenting-some p))
      (λ p. ap (numbers (λ n. ltb 4 n)) (presenting-none p))

  unmet-shown : first (presenting s k o) ≡ 0 → Unmet (presenting s k o)
  unmet-shown e = none-met (λ n. ltb 4 n) (presenting s k o) refl presenting-numbers e

  -- 5 is not met
  some-shown : presents o ≡ true → Unmet (presenting s k o) → k ≢ 0
  unfolding showing ◌when◌
  some-shown p u = eqb-false _ _ (subst Unmet (presenting-some p) u).0

  pub slot-shown : presents o ≡ true → first (presenting s k o) ≡ 0 → k ≢ 0
  slot-shown p e = some-shown p (unmet-shown e)

-- ---- 5, 19, 6 and the call's own

module _ (s : State) (c : Call) (me k : ℕ) where
  late-numbers : (o : Op) → numbers (λ n. ltb 4 n) (presenting s k o ++ refuses s c me k o) ≡ true
  unfolding numbers showing presenting presents refuses ◌when◌ make_obj_refuses transfer_refuses derive_cap_refuses rename_obj_refuses
      withdraw_refuses deposit_refuses process_refuses send_refuses receive_refuses revive_refuses
  late-numbers make_obj = refl
  late-numbers read = refl
  late-numbers write = refl
  late-numbers cap_info = refl
  late-numbers derive_cap = refl
  late-numbers delete_cap = refl
  late-numbers rename_obj = refl
  late-numbers withdraw = refl
  late-numbers deposit = refl
  late-numbers suspend = refl
  late-numbers resume = refl
  late-numbers apply_lock = refl
  late-numbers send = refl
  late-numbers receive = refl
  late-numbers wait = refl
  late-numbers revive = refl
  late-numbers unknown = refl

  late-none : (o : Op) → first (presenting s k o ++ refuses s c me k o) ≡ 0
      → (presents o ≡ true → k ≢ 0) × Unmet (refuses s c me k o)
  late-none o e =
      let a = none-met (λ n. ltb 4 n) _ refl (late-numbers o) e in
      let u = unmet-append (presenting s k o) (refuses s c me k o) a in
      (λ p. some-shown s k o p u.0, u.1)

-- they are all after 4
pub late-high : (s : State) (c : Call) (k : ℕ) → late s c k ≢ 0 → 4 < late s c k
unfolding late
late-high s c k h =
    let o : Op = op c.number in
    ltb-true _ _ (first-in (λ n. ltb 4 n) (presenting s k o ++ refuses s c (caller s c) k o)
    (late-numbers s c (caller s c) k o) h)

-- 5, 19 or 6 where one is met, else the first of the call's own
module _ (s : State) (c : Call) (k : ℕ) where
  abbrev shows : List Refusal
  shows = presenting s k (op c.number)

  abbrev owns : List Refusal
  owns = refuses s c (caller s c) k (op c.number)

  pub late-shown : first shows ≢ 0 → late s c k ≡ first shows
  unfolding late
  late-shown nz = first-front shows owns nz

  pub late-own : first shows ≡ 0 → late s c k ≡ first owns
  unfolding late
  late-own z = first-append shows owns (unmet-shown s k (op c.number) z)

-- ---- where a call is done; s is what the fee left, me the caller's slot, k that of the capability presented

pub record Ready (s : State) (c : Call) (me k : ℕ) (o : Op) : Type 0 where
  pub who : Process s.object me
  pub name : (s.object me).name ≡ c.caller
  pub fits : arguments_fit o c ≡ true
  pub shown : presents o ≡ true → Shown s me c.presented k
  pub none : Unmet (refuses s c me k o)

-- the slot of the capability presented to the paid store
abbrev pub slot_of : State → Call → ℕ
slot_of s c = presented (paid s c) (caller s c) c.presented

pub early-fits : (s : State) (c : Call) → early s c ≡ 0 → arguments_fit (op c.number) c ≡ true
unfolding in_range
early-fits s c e = (all3 (name_fits c.caller) (not (presents (op c.number)) || name_fits c.presented.name)
    (arguments_fit (op c.number) c) (early-none s c e).0).2

pub ready : (s : State) (c : Call) → Objects s.object → early s c ≡ 0 → late (paid s c) c (slot_of s c) ≡ 0
    → Ready (paid s c) c (caller s c) (slot_of s c) (op c.number)
unfolding paid to_house spend with_cash with_house late caller object_named
ready s c O e f =
    let a = early-none s c e in
    let r = runner s c O a.1 in
    let b = late-none (paid s c) c (caller s c) (slot_of s c) (op c.number) f in
    record {
      who = r.0;
      name = r.1;
      fits = early-fits s c e;
      shown = λ p. shown (paid s c) (caller s c) c.presented (b.0 p);
      none = b.1;
    }
