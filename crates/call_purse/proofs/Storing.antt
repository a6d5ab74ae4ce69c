-- The words after stores along a climb and one to the caller's cash: each moneyword on the climb has gone through f,
-- the cash is v, and nothing else is changed.
use Prim.Native.Nat.{ℕ, suc, ◌+◌, ◌≤◌}
use mathlib.Core.Path.{◌≡◌, refl, sym, ap, ◌∙◌}
use mathlib.Core.Bool.{true, false}
use mathlib.Core.List.{List, [], ◌∷◌}
use native.Mathlib.Omega.{arith}
use lib.ListN.{length, get_or, set}
use borrow.Author.Tests.{eq-eqb, ne_eqb}
use Rattle.rules.specs.Slots.{at, any, mem}
use Rattle.rules.proofs.Tests.{by-eq, both_true}
use Rattle.layout.specs.Layout as Layout
use Rattle.layout.specs.Rows.{field, region, money_of, cash_of}
use Rattle.layout.specs.Shape.{Chain}
use Rattle.rules.proofs.Slots.{at_here, at-else}
use Rattle.layout.proofs.Field.{field-same, region-at}
use Rattle.layout.proofs.Puts.{Put, put, puts, length-puts, apart, beside, Within, field-kept, region-kept}
use Rattle.call_purse.specs.Climb.{through}

module _ (f : ℕ → ℕ) (w : List ℕ) where
  -- ---- as a list of stores

  abbrev purses : List ℕ → List Put
  purses [] = []
  purses (i ∷ xs) = put 512 Layout.MONEY i (f (money_of w i)) ∷ purses xs

  through-puts : (xs : List ℕ) → through f xs w ≡ puts (purses xs) w
  unfolding through
  through-puts [] = refl
  through-puts (i ∷ xs) = ap (λ u. set u (Layout.MONEY + i) (f (money_of w i))) (through-puts xs)

  purses-within : (p : ℕ → ℕ) (k : ℕ) (xs : List ℕ) → Chain 512 p k xs → Within (purses xs)
  unfolding Chain
  purses-within p k [] c = tt
  purses-within p k (i ∷ xs) c = (c.2, purses-within p (p i) xs c.3)

  purses-beside : (n off : ℕ) (xs : List ℕ) → apart n off 513 Layout.MONEY ≡ true → beside n off (purses xs) ≡ true
  purses-beside n off [] h = refl
  purses-beside n off (i ∷ xs) h =
      both_true (apart n off 513 Layout.MONEY) (beside n off (purses xs)) h (purses-beside n off xs h)

  -- ---- the moneywords

  money-through : (p : ℕ → ℕ) (k : ℕ) (xs : List ℕ) → Chain 512 p k xs → length w ≡ Layout.WORDS → (j : ℕ)
      → money_of (through f xs w) j ≡ elim (mem j xs) [ true ↦ f (money_of w j) | false ↦ money_of w j ]
  unfolding through Chain mem any
  money-through p k [] c e j = refl
  money-through p k (i ∷ xs) c e j =
      let long : length (through f xs w) ≡ Layout.WORDS = rw (through-puts xs, length-puts) e in
      let here = field-same 512 Layout.MONEY (through f xs w) i (f (money_of w i)) c.2 (omega arith) c.1 in
      (λ d. here d j) ∙ by-eq j i
      (λ q. rw (q, eq-eqb i i refl, any, at_here) (ap (λ (x : ℕ). f (money_of w x)) (sym q)))
      (λ n. at-else (money_of (through f xs w)) i (f (money_of w i)) j n
      ∙ rw (ne_eqb i j (λ q. n (sym q)), any) (money-through p (p i) xs c.3 e j))

-- ---- with the cash

-- after differs from w in the moneywords of the slots xs and in the cash of me
pub record Changed (f : ℕ → ℕ) (xs : List ℕ) (me v : ℕ) (w after : List ℕ) : Type 0 where
  pub long : length after ≡ length w
  pub house : get_or after Layout.HOUSE 0 ≡ get_or w Layout.HOUSE 0
  pub cash : cash_of after ≡ at (cash_of w) me v
  pub money : (j : ℕ) → money_of after j ≡ elim (mem j xs) [ true ↦ f (money_of w j) | false ↦ money_of w j ]
  -- any other row
  pub row : (n off : ℕ) → apart (suc n) off 65 Layout.CASH ≡ true → apart (suc n) off 513 Layout.MONEY ≡ true
      → field n off after ≡ field n off w

module _ (f : ℕ → ℕ) (w : List ℕ) (p : ℕ → ℕ) (k : ℕ) (xs : List ℕ) (chain : Chain 512 p k xs)
    (long : length w ≡ Layout.WORDS) (me v : ℕ) (low : 1 ≤ me) (high : me ≤ 64) where
  abbrev after : List ℕ
  after = set (through f xs w) (Layout.CASH + me) v

  abbrev stores : List Put
  stores = put 64 Layout.CASH me v ∷ purses f w xs

  after_puts : after ≡ puts stores w
  after_puts = ap (λ u. set u (Layout.CASH + me) v) (through-puts f w xs)

  stores-within : Within stores
  stores-within = (high, purses-within f w p k xs chain)

  row_kept : (n off : ℕ) → apart (suc n) off 65 Layout.CASH ≡ true → apart (suc n) off 513 Layout.MONEY ≡ true
      → field n off after ≡ field n off w
  row_kept n off a b =
      let rest = purses-beside f w (suc n) off xs b in
      rw after_puts (field-kept n off w stores
      (both_true (apart (suc n) off 65 Layout.CASH) (beside (suc n) off (purses f w xs)) a rest) stores-within)

  house-kept : get_or after Layout.HOUSE 0 ≡ get_or w Layout.HOUSE 0
  house-kept =
      let same : region 1 Layout.HOUSE after ≡ region 1 Layout.HOUSE w =
      rw after_puts (region-kept 1 Layout.HOUSE w stores (purses-beside f w 1 Layout.HOUSE xs refl) stores-within) in
      sym (region-at 1 Layout.HOUSE after 0 (omega arith)) ∙ ap (λ u. get_or u 0 0) same
      ∙ region-at 1 Layout.HOUSE w 0 (omega arith)

  cash-after : cash_of after ≡ at (cash_of w) me v
  cash-after =
      let fits : length (through f xs w) ≡ Layout.WORDS = rw (through-puts f w xs, length-puts) long in
      let same : cash_of (through f xs w) ≡ cash_of w = rw (through-puts f w xs)
      (field-kept 64 Layout.CASH w (purses f w xs) (purses-beside f w 65 Layout.CASH xs refl) stores-within.1) in
      field-same 64 Layout.CASH (through f xs w) me v high (omega arith) low ∙ ap (λ g. at g me v) same

  money-after : (j : ℕ) → money_of after j ≡ elim (mem j xs) [ true ↦ f (money_of w j) | false ↦ money_of w j ]
  money-after j =
      let same = field-kept 512 Layout.MONEY (through f xs w) (put 64 Layout.CASH me v ∷ []) refl (high, tt) in
      (λ d. same d j) ∙ money-through f w p k xs chain long j

  pub changed : Changed f xs me v w after
  changed = record {
    long = rw (after_puts, length-puts);
    house = house-kept;
    cash = cash-after;
    money = money-after;
    row = row_kept;
  }
