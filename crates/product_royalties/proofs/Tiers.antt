-- The thousandths of p picks: a product in each tier of the tariff. And that they grow with p.
use Prim.Native.Nat.{ℕ, zero, suc, ◌+◌, ◌-◌, ◌*◌, ◌≤◌, ◌<◌}
use mathlib.Core.Path.{◌≡◌, refl, sym, ap, ◌∙◌}
use mathlib.Core.Bool.{true, false}
use native.Mathlib.Omega.{arith}
use native.Mathlib.Nat.{add-zero, add-suc, add-sub_of_le, zero-mul, suc-mul}
use lib.Dec.{leb}
use borrow.Author.Tests.{le-leb, lt-leb}
use Rattle.rules.proofs.Tests.{pick-by}
use Rattle.product_royalties.specs.Charge.{first_picks, first_rate, next_picks, next_rate, last_rate, rate, thousandths}

-- ---- what pick i costs

rate-first : (i : ℕ) → i ≤ first_picks → rate i ≡ first_rate
unfolding rate
rate-first i h = rw (le-leb i first_picks h, rate)

rate-next : (i : ℕ) → first_picks < i → i ≤ next_picks → rate i ≡ next_rate
unfolding rate
rate-next i h k = rw (lt-leb i first_picks h, le-leb i next_picks k, rate)

rate-last : (i : ℕ) → next_picks < i → rate i ≡ last_rate
unfolding rate
rate-last i h = rw (lt-leb i first_picks (omega (arith, h)), lt-leb i next_picks h, rate)

-- none costs more than one of the first
rate-most : (i : ℕ) → rate i ≤ first_rate
unfolding rate
rate-most i = pick-by (λ r. r ≤ first_rate) (leb i first_picks) first_rate (elim (leb i next_picks) [ true ↦ next_rate | false ↦ last_rate ])
    (λ _. omega arith) (λ _. pick-by (λ r. r ≤ first_rate) (leb i next_picks) next_rate last_rate (λ _. omega arith) (λ _. omega arith))

-- ---- what p picks cost

pub none : thousandths 0 ≡ 0
unfolding thousandths
none = refl

-- one more
more : (p : ℕ) → thousandths (suc p) ≡ thousandths p + rate (suc p)
unfolding thousandths
more p = refl

-- n more at one rate
at-rate : (r p n : ℕ) → ((i : ℕ) → p < i → i ≤ p + n → rate i ≡ r) → thousandths (p + n) ≡ thousandths p + n * r
at-rate r p zero same = ap thousandths (add-zero p) ∙ omega (arith, zero-mul r)
at-rate r p (suc n) same =
    ap thousandths (add-suc p n) ∙ more (p + n)
    ∙ omega (arith, at-rate r p n (λ i l h. same i l (omega (arith, h))), same (suc (p + n)) (omega arith) (omega arith), suc-mul n r)

-- from p to q at one rate
tier : (r p q : ℕ) → p ≤ q → ((i : ℕ) → p < i → i ≤ q → rate i ≡ r) → thousandths q ≡ thousandths p + (q - p) * r
tier r p q l same =
    ap thousandths (sym (add-sub_of_le l)) ∙ at-rate r p (q - p) (λ i k h. same i k (omega (arith, h, l)))

-- the products, in each tier
abbrev pub in_first : ℕ → ℕ
in_first p = p * first_rate

abbrev pub in_next : ℕ → ℕ
in_next p = in_first first_picks + (p - first_picks) * next_rate

abbrev pub in_last : ℕ → ℕ
in_last p = in_next next_picks + (p - next_picks) * last_rate

pub first : (p : ℕ) → p ≤ first_picks → thousandths p ≡ in_first p
first p h = omega (arith, none, tier first_rate 0 p (omega arith) (λ i l k. rate-first i (omega (arith, h, k))))

pub next : (p : ℕ) → first_picks ≤ p → p ≤ next_picks → thousandths p ≡ in_next p
next p l h = omega (arith, first first_picks (omega arith), tier next_rate first_picks p l (λ i k m. rate-next i k (omega (arith, h, m))))

pub last : (p : ℕ) → next_picks ≤ p → thousandths p ≡ in_last p
last p l = omega (arith, next next_picks (omega arith) (omega arith), tier last_rate next_picks p l (λ i k m. rate-last i k))

-- ---- they grow, and how far

pub grows : (p n : ℕ) → thousandths p ≤ thousandths (p + n)
grows p zero = rw (add-zero p) (omega arith)
grows p (suc n) = rw (add-suc p n) (omega (arith, grows p n, more (p + n)))

pub most : (p : ℕ) → thousandths p ≤ p * first_rate
most zero = omega (arith, none)
most (suc p) = omega (arith, more p, most p, rate-most (suc p))
