-- Three exchanges turn a tile: a test that antt computes at each of its 64 bits.
use Prim.Native.Nat.{ℕ, zero, suc, ◌+◌, ◌*◌, ◌/◌, ◌%◌, ◌^◌, ◌≤◌, ◌<◌}
use mathlib.Core.Path.{◌≡◌, refl, ap, ◌∙◌}
use mathlib.Core.Bool.{Bool, true, ◌&&◌}
use native.Mathlib.Omega.{arith}
use native.Mathlib.Decide.{dec_le}
use lib.Dec.{leb, eqb, lit<}
use borrow.Author.Tests.{leb-true, eqb-true}
use Rattle.rules.proofs.Tests.{all2, all3}
use Rattle.product_hooks.specs.Turned.{bit_of}
use Rattle.product_hooks.specs.Tile.{Across}
use Rattle.product_hooks.proofs.Exchange.{exchange, from, exchange-bit}

-- ---- a test at every number below n

abbrev all : (ℕ → Bool) → ℕ → Bool
all f zero = true
all f (suc n) = f n && all f n

at : (f : ℕ → Bool) (n : ℕ) → all f n ≡ true → (k : ℕ) → k < n → f k ≡ true
at f zero t k h = absurd (omega arith)
at f (suc n) t k h = go (dec_le n k) (at f n (all2 (f n) (all f n) t).1 k) where
  go : Dec (n ≤ k) → (k < n → f k ≡ true) → f k ≡ true
  go (yes g) r = let e : n ≡ k = omega arith in rw e at (all2 (f n) (all f n) t).0
  go (no g) r = r (omega arith)

-- ---- the three masks

abbrev m₁ : ℕ
m₁ = 0x00aa_00aa_00aa_00aa

abbrev m₂ : ℕ
m₂ = 0x0000_cccc_0000_cccc

abbrev m₃ : ℕ
m₃ = 0x0000_0000_f0f0_f0f0

abbrev apart : ℕ → ℕ → ℕ → Bool
apart s m k = leb (bit_of m k + bit_of (m * 2 ^ s) k) 1

f₃ : ℕ → ℕ
f₃ = from 28 m₃

f₂ : ℕ → ℕ
f₂ k = from 14 m₂ (f₃ k)

f₁ : ℕ → ℕ
f₁ k = from 7 m₁ (f₂ k)

-- no bit is wanted twice
clean : ℕ → Bool
clean k = apart 28 m₃ k && apart 14 m₂ (f₃ k) && apart 7 m₁ (f₂ k)

right : ℕ → Bool
right k = eqb (f₁ k) (8 * (k % 8) + k / 8)

all-clean : all clean 64 ≡ true
unfolding clean f₃ f₂ from
all-clean = refl

all_right : all right 64 ≡ true
unfolding right f₃ f₂ f₁ from
all_right = refl

-- what the code computes
unfoldable pub across : ℕ → ℕ
unfolding exchange
across x = exchange 28 m₃ (exchange 14 m₂ (exchange 7 m₁ x))

across-bit : (x k : ℕ) → k < 64 → bit_of (across x) k ≡ bit_of x (8 * (k % 8) + k / 8)
unfolding across clean right f₁ f₂ f₃
across-bit x k h =
    let c = all3 (apart 28 m₃ k) (apart 14 m₂ (f₃ k)) (apart 7 m₁ (f₂ k)) (at clean 64 all-clean k h) in
    exchange-bit 28 m₃ (exchange 14 m₂ (exchange 7 m₁ x)) k (lit< tt) (leb-true _ 1 c.0)
    ∙ exchange-bit 14 m₂ (exchange 7 m₁ x) (f₃ k) (lit< tt) (leb-true _ 1 c.1)
    ∙ exchange-bit 7 m₁ x (f₂ k) (lit< tt) (leb-true _ 1 c.2)
    ∙ ap (bit_of x) (eqb-true (f₁ k) (8 * (k % 8) + k / 8) (at right 64 all_right k h))

pub is-across : (x : ℕ) → Across x (across x)
is-across x i j hi hj = let e : 8 * ((8 * i + j) % 8) + (8 * i + j) / 8 ≡ 8 * j + i = omega arith in
    across-bit x (8 * i + j) (omega arith) ∙ ap (bit_of x) e
