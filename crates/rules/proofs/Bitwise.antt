-- Laws of bits: of the rights in both sets, and of words that are XORed.
use Prim.Native.Nat.{ℕ, zero, suc, ◌+◌, ◌*◌, ◌/◌, ◌%◌, ◌≤◌, ◌<◌, min}
use mathlib.Core.Path.{◌≡◌, refl, sym, ap, ◌∙◌}
use native.Mathlib.Omega.{arith}
use lib.Bits.{bit_and, and_step, and_zero_l, bit_xor, differ, xor_step, xor_self, xor_zero_r, xor_shr}
use Rattle.rules.specs.Limit as Limit

-- ---- bit_and is associative, so what lies in a part of a part lies in the whole

and-half : (a b : ℕ) → bit_and a b / 2 ≡ bit_and (a / 2) (b / 2)
and-half a b = omega (arith, and_step a b)

and-odd : (a b : ℕ) → bit_and a b % 2 ≡ min (a % 2) (b % 2)
and-odd a b = omega (arith, and_step a b)

and-assoc-zero : (a b c : ℕ) → a ≡ 0 → bit_and (bit_and a b) c ≡ bit_and a (bit_and b c)
and-assoc-zero a b c e = rw (e, and_zero_l b, and_zero_l c, and_zero_l (bit_and b c))

and-assoc-by : (n a b c : ℕ) → a ≤ n → bit_and (bit_and a b) c ≡ bit_and a (bit_and b c)
and-assoc-by zero a b c h = and-assoc-zero a b c (omega arith)
and-assoc-by (suc n) a b c h =
    and_step (bit_and a b) c
    ∙ ap (λ x. bit_and x (c / 2) * 2 + min (bit_and a b % 2) (c % 2)) (and-half a b)
    ∙ ap (λ x. x * 2 + min (bit_and a b % 2) (c % 2)) (and-assoc-by n (a / 2) (b / 2) (c / 2) (omega arith))
    ∙ ap (λ x. bit_and (a / 2) x * 2 + min (bit_and a b % 2) (c % 2)) (sym (and-half b c))
    ∙ omega (arith, and-odd a b, and-odd b c)
    ∙ sym (and_step a (bit_and b c))

pub and_assoc : (a b c : ℕ) → bit_and (bit_and a b) c ≡ bit_and a (bit_and b c)
and_assoc a b c = and-assoc-by a a b c (omega arith)

-- ---- exclusive or: twice by the same number is nothing, and by a number below 2 to the power 31 it keeps what stands above

differ-bit : (x y : ℕ) → x < 2 → y < 2 → differ x y < 2
differ-bit zero y p q = q
differ-bit (suc zero) zero p q = p
differ-bit (suc zero) (suc y) p q = omega arith
differ-bit (suc (suc x)) y p q = absurd (omega arith)

differ-twice : (x y : ℕ) → x < 2 → y < 2 → differ (differ x y) y ≡ x
differ-twice zero zero p q = refl
differ-twice zero (suc zero) p q = refl
differ-twice zero (suc (suc y)) p q = absurd (omega arith)
differ-twice (suc zero) zero p q = refl
differ-twice (suc zero) (suc zero) p q = refl
differ-twice (suc zero) (suc (suc y)) p q = absurd (omega arith)
differ-twice (suc (suc x)) y p q = absurd (omega arith)

xor-half : (a b : ℕ) → bit_xor a b / 2 ≡ bit_xor (a / 2) (b / 2)
xor-half a b = xor_shr a b 1

xor-odd : (a b : ℕ) → bit_xor a b % 2 ≡ differ (a % 2) (b % 2)
xor-odd a b = omega (arith, xor_step a b, differ-bit (a % 2) (b % 2) (omega arith) (omega arith))

xor-twice-zero : (a b : ℕ) → a ≡ 0 → bit_xor (bit_xor a b) b ≡ a
xor-twice-zero a b e = rw e (xor_self b)

xor-twice-by : (n a b : ℕ) → a ≤ n → bit_xor (bit_xor a b) b ≡ a
xor-twice-by zero a b h = xor-twice-zero a b (omega arith)
xor-twice-by (suc n) a b h =
    xor_step (bit_xor a b) b
    ∙ ap (λ x. bit_xor x (b / 2) * 2 + differ (bit_xor a b % 2) (b % 2)) (xor-half a b)
    ∙ ap (λ x. x * 2 + differ (bit_xor a b % 2) (b % 2)) (xor-twice-by n (a / 2) (b / 2) (omega arith))
    ∙ ap (λ x. a / 2 * 2 + differ x (b % 2)) (xor-odd a b)
    ∙ ap (λ x. a / 2 * 2 + x) (differ-twice (a % 2) (b % 2) (omega arith) (omega arith))
    ∙ omega arith

pub xor-twice : (a b : ℕ) → bit_xor (bit_xor a b) b ≡ a
xor-twice a b = xor-twice-by a a b (omega arith)

pub xor-top : (a b : ℕ) → b < Limit.top → bit_xor a b / Limit.top ≡ a / Limit.top
xor-top a b h =
    let z : b / Limit.top ≡ 0 = omega arith in
    xor_shr a b 31 ∙ ap (bit_xor (a / Limit.top)) z ∙ xor_zero_r (a / Limit.top)
