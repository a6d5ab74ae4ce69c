-- A byte and its eight bits.
use Prim.Native.Nat.{ℕ, zero, suc, ◌+◌, ◌*◌, ◌/◌, ◌%◌, ◌≤◌, ◌<◌}
use mathlib.Core.Path.{◌≡◌}
use native.Mathlib.Omega.{arith}
use Rattle.product_hooks.specs.Turned.{bit_of, byte_of}

pub below-eight : (P : ℕ → Type 0) → P 0 → P 1 → P 2 → P 3 → P 4 → P 5 → P 6 → P 7 → (i : ℕ) → i < 8 → P i
below-eight P a b c d e f g h zero l = a
below-eight P a b c d e f g h (suc zero) l = b
below-eight P a b c d e f g h (suc (suc zero)) l = c
below-eight P a b c d e f g h (suc (suc (suc zero))) l = d
below-eight P a b c d e f g h (suc (suc (suc (suc zero)))) l = e
below-eight P a b c d e f g h (suc (suc (suc (suc (suc zero))))) l = f
below-eight P a b c d e f g h (suc (suc (suc (suc (suc (suc zero)))))) l = g
below-eight P a b c d e f g h (suc (suc (suc (suc (suc (suc (suc zero))))))) l = h
below-eight P a b c d e f g h (suc (suc (suc (suc (suc (suc (suc (suc i)))))))) l = absurd (omega arith)

-- bit i of the byte with the bits f is f i
bit-of : (a b c d e f g h : ℕ) → a ≤ 1 → b ≤ 1 → c ≤ 1 → d ≤ 1 → e ≤ 1 → f ≤ 1 → g ≤ 1 → h ≤ 1
    → let n : ℕ = a + 2 * b + 4 * c + 8 * d + 16 * e + 32 * f + 64 * g + 128 * h in
    (n / 1 % 2 ≡ a) × (n / 2 % 2 ≡ b) × (n / 4 % 2 ≡ c) × (n / 8 % 2 ≡ d)
    × (n / 16 % 2 ≡ e) × (n / 32 % 2 ≡ f) × (n / 64 % 2 ≡ g) × (n / 128 % 2 ≡ h)
bit-of a b c d e f g h la lb lc ld le lf lg lh =
    (omega arith, omega arith, omega arith, omega arith, omega arith, omega arith, omega arith, omega arith)

pub byte-bit : (f : ℕ → ℕ) → ((i : ℕ) → f i ≤ 1) → (i : ℕ) → i < 8 → bit_of (byte_of f) i ≡ f i
unfolding byte_of
byte-bit f small i l =
    let b = bit-of (f 0) (f 1) (f 2) (f 3) (f 4) (f 5) (f 6) (f 7)
    (small 0) (small 1) (small 2) (small 3) (small 4) (small 5) (small 6) (small 7) in
    below-eight (λ (i : ℕ). bit_of (byte_of f) i ≡ f i) b.0 b.1 b.2 b.3 b.4 b.5 b.6 b.7 i l

-- a byte is made of its bits
made_of : (n p q r s t u v a b c d e f g h : ℕ) → n ≡ a + 2 * p → p ≡ b + 2 * q → q ≡ c + 2 * r → r ≡ d + 2 * s
    → s ≡ e + 2 * t → t ≡ f + 2 * u → u ≡ g + 2 * v → v ≡ h
    → a + 2 * b + 4 * c + 8 * d + 16 * e + 32 * f + 64 * g + 128 * h ≡ n
made_of n p q r s t u v a b c d e f g h z₀ z₁ z₂ z₃ z₄ z₅ z₆ z₇ = omega arith

pub byte-made : (n : ℕ) → n ≤ 255 → byte_of (bit_of n) ≡ n
unfolding byte_of
byte-made n l =
    made_of n (n / 2) (n / 4) (n / 8) (n / 16) (n / 32) (n / 64) (n / 128) _ _ _ _ _ _ _ _
    (omega arith) (omega arith) (omega arith) (omega arith) (omega arith) (omega arith) (omega arith) (omega arith)

pub byte-same : (f g : ℕ → ℕ) → ((i : ℕ) → i < 8 → f i ≡ g i) → byte_of f ≡ byte_of g
unfolding byte_of
byte-same f g s =
    omega (
      arith,
      s 0 (omega arith),
      s 1 (omega arith),
      s 2 (omega arith),
      s 3 (omega arith),
      s 4 (omega arith),
      s 5 (omega arith),
      s 6 (omega arith),
      s 7 (omega arith),
    )

pub byte_le : (f : ℕ → ℕ) → ((i : ℕ) → f i ≤ 1) → byte_of f ≤ 255
unfolding byte_of
byte_le f s = omega (arith, s 0, s 1, s 2, s 3, s 4, s 5, s 6, s 7)
