-- A row of the table at the column of a call number.
use Prim.Native.Nat.{ℕ, zero, suc, ◌≤◌, ◌<◌}
use mathlib.Core.Path.{◌≡◌, refl, ap, ◌∙◌}
use mathlib.Core.List.{List, [], ◌∷◌, map}
use native.Mathlib.Omega.{arith}
use lib.ListN.{length, get_or, get_or-map, get_or-eq_default}
use Rattle.rules.specs.Rights.{Op, unknown, op}
use Rattle.rules.specs.Fields.{Field, fields, place}
use Rattle.script_lines.specs.Table.{calls, places, lengths}

-- k is the column of n
abbrev pub Column : ℕ → ℕ → Type 0
Column k n = (k ≤ 16) × (op k ≡ op n)

pub itself : (k : ℕ) → k ≤ 16 → Column k k
itself k low = (low, refl)

pub of_number : {k m n : ℕ} → Column k m → m ≡ n → Column k n
of_number (low, e) f = (low, e ∙ ap op f)

-- the same, whatever stands past the last
within : (l : List ℕ) (k a b : ℕ) → k < length l → get_or l k a ≡ get_or l k b
within [] k a b h = absurd (omega arith)
within (x ∷ l) zero a b h = refl
within (x ∷ l) (suc k) a b h = within l k a b (omega arith)

row_in : (g : Op → ℕ) (k n : ℕ) → Column k n → get_or (map g calls) k 0 ≡ g (op n)
unfolding op calls
row_in g k n (low, e) =
    within (map g calls) k 0 (g unknown) (omega arith) ∙ get_or-map g calls k unknown ∙ ap g e

pub place_in : (f : Field) (k n : ℕ) → Column k n → get_or (places f) k 0 ≡ place (op n) f
unfolding places
place_in f = row_in (λ o. place o f)

pub length-in : (k n : ℕ) → Column k n → get_or lengths k 0 ≡ length (fields (op n))
unfolding lengths
length-in = row_in (λ o. length (fields o))

-- no process call has a number above 16
pub past : (n : ℕ) → 16 < n → op n ≡ unknown
unfolding op calls
past n h = get_or-eq_default calls unknown {n = n} (omega arith)
