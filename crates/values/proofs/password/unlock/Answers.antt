-- `unlock` is the rules' `unlock` of the two words: by p1's top bit the lockword is XORed in, or 0, which changes nothing.
use Prim.Native.Nat.{ℕ, ◌*◌}
use borrow.Author.Rules.{rules}
use lib.Bits.{bit_xor, xor_zero_r}
use lib.Dec.{leb}
use mathlib.Core.Path.{◌≡◌, refl, ap, ◌∙◌}
use mir.Syntax.{w32}
use mir.Val.{Fits}
use native.Mathlib.Nat.{mul-one, mul-zero}
use Rattle.rules.proofs.Tests.{by_bool}
use Rattle.rules.specs.Limit as Limit
use Rattle.rules.specs.Password.{unlock}
use Rattle.values.specs.Words.{password_of, top_bit}
use Rattle.values.proofs.password.unlock.Goals as goal

module _ (p1 t : ℕ) (e : t ≡ top_bit p1) where
  times-fits : (x : ℕ) → Fits w32 x → Fits w32 (x * t)
  unfolding top_bit
  times-fits x f = by_bool (leb Limit.top p1)
      (λ h. rw (e, h, top_bit, mul-one x) f)
      (λ h. rw (e, h, top_bit, mul-zero x) (search rules))

  unlocked : (p2 x y : ℕ) → record { p1 = bit_xor p1 (x * t); p2 = bit_xor p2 (y * t) }
      ≡ unlock (record { p1 = p1; p2 = p2 }) (record { first = x; second = y })
  unfolding unlock top_bit
  unlocked p2 x y = by_bool (leb Limit.top p1)
      (λ h. simp (e, h, top_bit, unlock, mul-one x, mul-one y) refl)
      (λ h. simp (e, h, top_bit, unlock, mul-zero x, mul-zero y, xor_zero_r p1, xor_zero_r p2) refl)

pub overflow_mul-first : goal.overflow_mul-first
overflow_mul-first c = times-fits _ _ c.top_bit-top.ensures _ (search rules)

pub overflow_mul-second : goal.overflow_mul-second
overflow_mul-second c = times-fits _ _ c.top_bit-top.ensures _ (search rules)

pub returns : goal.returns
returns c = ap password_of c.xor_words.ensures ∙ unlocked _ _ c.top_bit-top.ensures _ _ _
