-- The bits of a number, and what `&`, `^` and shifts make of them.
use Prim.Native.Nat.{ℕ, zero, suc, ◌+◌, ◌*◌, ◌-◌, ◌/◌, ◌%◌, ◌^◌, ◌≤◌, ◌<◌, min}
use mathlib.Core.Path.{◌≡◌, refl, sym, ap, ◌∙◌}
use native.Mathlib.Nat.{mod-lt, zero-lt-suc, mul_assoc}
use native.Mathlib.Omega.{arith}
use lib.Bits.{bit_and, bit_xor, differ, and_step, xor_step, and_shr, xor_shr, shifted_even}
use lib.Pow.{shr-shr, pow-add, shl-shr}
use Rattle.product_hooks.specs.Turned.{bit_of}

pub bit_le : (n k : ℕ) → bit_of n k ≤ 1
bit_le n k = omega (arith, mod-lt (n / 2 ^ k) (zero-lt-suc 1))

-- a number up to 1 is 0 or 1
pub one-case : (P : ℕ → Type 0) (b : ℕ) → b ≤ 1 → (b ≡ 0 → P 0) → (b ≡ 1 → P 1) → P b
one-case P zero h f g = f refl
one-case P (suc zero) h f g = g refl
one-case P (suc (suc b)) h f g = absurd (omega arith)

pub differ-le : (x y : ℕ) → x ≤ 1 → y ≤ 1 → differ x y ≤ 1
differ-le zero y hx hy = hy
differ-le (suc x) zero hx hy = hx
differ-le (suc zero) (suc y) hx hy = omega arith
differ-le (suc (suc x)) (suc y) hx hy = absurd (omega arith)

last_of : (q c : ℕ) → c ≤ 1 → (q * 2 + c) % 2 ≡ c
last_of q c h = omega arith

pub bit-and : (a b k : ℕ) → bit_of (bit_and a b) k ≡ min (bit_of a k) (bit_of b k)
bit-and a b k =
    ap (λ (n : ℕ). n % 2) (and_shr a b k ∙ and_step (a / 2 ^ k) (b / 2 ^ k))
    ∙ last_of _ _ (omega (arith, bit_le a k))

pub bit-xor : (a b k : ℕ) → bit_of (bit_xor a b) k ≡ differ (bit_of a k) (bit_of b k)
bit-xor a b k =
    ap (λ (n : ℕ). n % 2) (xor_shr a b k ∙ xor_step (a / 2 ^ k) (b / 2 ^ k))
    ∙ last_of _ _ (differ-le (bit_of a k) (bit_of b k) (bit_le a k) (bit_le b k))

pub bit-right : (n s k : ℕ) → bit_of (n / 2 ^ s) k ≡ bit_of n (s + k)
bit-right n s k = ap (λ (m : ℕ). m % 2) (shr-shr n s k)

pub bit-left-high : (n s k : ℕ) → bit_of (n * 2 ^ s) (s + k) ≡ bit_of n k
bit-left-high n s k = sym (bit-right (n * 2 ^ s) s k) ∙ ap (λ (m : ℕ). bit_of m k) (shl-shr n s)

pub bit-left-low : (n s k : ℕ) → k < s → bit_of (n * 2 ^ s) k ≡ 0
bit-left-low n s k h = let e : suc (s - suc k) + k ≡ s = omega arith in
    ap (λ (t : ℕ). bit_of (n * 2 ^ t) k) (sym e)
    ∙ ap (λ (t : ℕ). n * t / 2 ^ k % 2) (pow-add 2 (suc (s - suc k)) k)
    ∙ ap (λ (t : ℕ). t / 2 ^ k % 2) (sym (mul_assoc n (2 ^ suc (s - suc k)) (2 ^ k)))
    ∙ ap (λ (t : ℕ). t % 2) (shl-shr (n * 2 ^ suc (s - suc k)) k)
    ∙ shifted_even n (s - suc k)
