-- 02, CR 8: as many passwords open an object as its capabilities hold the right. A password opens by one capability or by
-- none, and each capability is opened by one password: its own, unlocked.
use Prim.Native.Nat.{ℕ}
use mathlib.Core.Path.{◌≡◌, refl, sym, ap, ◌∙◌}
use mathlib.Core.Bool.{Bool, true, false, not, ◌&&◌, and_comm}
use mathlib.Core.List.{[], ◌∷◌}
use native.Mathlib.Omega.{arith}
use lib.Dec.{eqb}
use Rattle.rules.specs.Code as Code
use Rattle.rules.specs.Limit as Limit
use Rattle.rules.specs.Slots.{find, sum_over, one, count_over}
use Rattle.rules.specs.Store.{Name, same_name, Password, same_password, State, cap_lives, object_named}
use Rattle.rules.specs.Valid.{Formed}
use Rattle.rules.specs.Rights.{has}
use Rattle.rules.specs.Password.{unlock, presented}
use Rattle.rules.specs.Refusals.{◌when◌, first, expired, showing}
use Rattle.rules.specs.Questions.{sum_below, opens, opening}
use Rattle.rules.specs.Theorems.{holding}
use Rattle.rules.proofs.Tests.{refuted, all3, same-name, same-password, lives}
use Rattle.rules.proofs.Slots.{sum_same, sum-zero, find-counts}
use Rattle.rules.proofs.Presenting.{not_named}
use Rattle.rules.proofs.Below.{below-swap2, below-pair}
use Rattle.rules.proofs.Unlocking.{unlock-same, Halves, unlock-halves}

turned : (a b c : Bool) → ((a && b) && c) ≡ ((a && c) && b)
turned true b c = and_comm b c
turned false b c = refl

-- 5, 19 and 6 are not met: some slot was found, and it is not expired and holds the right
past_first : (z x h : Bool)
    → eqb (first (Code.not_found when z ∷ Code.expired when x ∷ Code.right_missing when not h ∷ [])) Code.done
    ≡ (not z && (not x && h))
unfolding first ◌when◌
past_first true x h = refl
past_first false true h = refl
past_first false false true = refl
past_first false false false = refl

module _ (s : State) (me : ℕ) (n : Name) (right : ℕ) (F : Formed s) where
  -- it is a living capability of the object named
  abbrev named-so : ℕ → Bool
  named-so i = cap_lives s i && same_name (s.object (s.cap i).object).name n

  abbrev holds : ℕ → Bool
  holds i = not (expired s i) && has (s.cap i).rights right

  abbrev pair : ℕ → ℕ → Password
  pair a b = record { p1 = a; p2 = b }

  -- the test by which `presented` finds a slot
  abbrev shows : ℕ → ℕ → ℕ → Bool
  shows a b i = named-so i && same_password (s.cap i).password (unlock (pair a b) (s.lock me))

  -- the password that opens the capability at slot i
  abbrev opener : ℕ → Password
  opener i = unlock (s.cap i).password (s.lock me)

  -- p1 is unique in its object, and the object has the name
  one-shows : (a b i j : ℕ) → shows a b i ≡ true → shows a b j ≡ true → i ≡ j
  one-shows a b i j e f =
      let p : Password = unlock (pair a b) (s.lock me) in
      let x = all3 (cap_lives s i) (same_name (s.object (s.cap i).object).name n) (same_password (s.cap i).password p)
      e in
      let y = all3 (cap_lives s j) (same_name (s.object (s.cap j).object).name n) (same_password (s.cap j).password p)
      f in
      let c = F.caps.live i (lives s i x.0) in
      let d = F.caps.live j (lives s j y.0) in
      F.caps.passwords i j (lives s i x.0) (lives s j y.0)
      (F.objects.names (s.cap i).object (s.cap j).object c.owned d.owned
      (same-name (s.object (s.cap i).object).name n x.1
      ∙ sym (same-name (s.object (s.cap j).object).name n y.1)))
      (ap (λ (q : Password). q.p1)
      (same-password (s.cap i).password p x.2 ∙ sym (same-password (s.cap j).password p y.2)))

  -- a password opens by one capability, or by none
  opens-count : (a b : ℕ) → one (opens s me n right a b) ≡ sum_over Limit.caps (λ i. one (shows a b i && holds i))
  unfolding opens showing presented count_over
  opens-count a b =
      let k : ℕ = find Limit.caps (shows a b) in
      ap one (past_first (eqb k 0) (expired s k) (has (s.cap k).rights right)) ∙ find-counts Limit.caps (shows a b) holds (one-shows a b)

  -- and that capability is the one of which it is the opener
  shows-opener : (a b i : ℕ)
      → (shows a b i && holds i) ≡ ((named-so i && holds i) && same_password (pair a b) (opener i))
  shows-opener a b i =
      turned (named-so i) (same_password (s.cap i).password (unlock (pair a b) (s.lock me))) (holds i)
      ∙ ap (λ x. (named-so i && holds i) && x)
      (unlock-same (s.cap i).password (pair a b) (s.lock me) (F.lock me))

  opens-sum : (a b : ℕ) → one (opens s me n right a b)
      ≡ sum_over Limit.caps (λ i. one ((named-so i && holds i) && same_password (pair a b) (opener i)))
  opens-sum a b =
      opens-count a b
      ∙ sum_same Limit.caps (λ i. one (shows a b i && holds i))
      (λ i. one ((named-so i && holds i) && same_password (pair a b) (opener i)))
      (λ i p q. ap one (shows-opener a b i))

  opener-halves : (i : ℕ) → (named-so i && holds i) ≡ true → Halves (opener i)
  opener-halves i e =
      let x = all3 (cap_lives s i) (same_name (s.object (s.cap i).object).name n) (holds i) e in
      let c = F.caps.live i (lives s i x.0) in
      unlock-halves (s.cap i).password (s.lock me) (F.lock me)
      (record { p1 = omega (arith, c.p1); p2 = omega (arith, c.p2) })

  -- each capability is opened by one password
  one-opener : (i : ℕ)
      → sum_below Limit.half (λ a. sum_below Limit.half (λ b.
      one ((named-so i && holds i) && same_password (pair a b) (opener i))))
      ≡ one (named-so i && holds i)
  unfolding same_password
  one-opener i = below-pair Limit.half (opener i).p1 (opener i).p2 (named-so i && holds i)
      (λ e. let h = opener-halves i e in (h.p1, h.p2))

  pub opening-holding : opening s me n right ≡ holding s n right
  unfolding opening holding count_over
  opening-holding =
      below-swap2 Limit.half Limit.caps (λ a b. one (opens s me n right a b))
      (λ a b i. one ((named-so i && holds i) && same_password (pair a b) (opener i))) opens-sum
      ∙ sum_same Limit.caps (λ i. sum_below Limit.half (λ a. sum_below Limit.half (λ b.
      one ((named-so i && holds i) && same_password (pair a b) (opener i)))))
      (λ i. one (named-so i && holds i)) (λ i p q. one-opener i)

  -- an absent object has no capability
  pub none-held : object_named s n ≡ 0 → holding s n right ≡ 0
  unfolding holding count_over one
  none-held z = sum-zero Limit.caps (λ i. one (named-so i && holds i)) (λ i a b.
      ap one (refuted (named-so i && holds i) (λ e.
      let x = all3 (cap_lives s i) (same_name (s.object (s.cap i).object).name n) (holds i) e in
      not_named s n F.objects z (s.cap i).object (F.caps.live i (lives s i x.0)).owned
      (same-name (s.object (s.cap i).object).name n x.1))))
