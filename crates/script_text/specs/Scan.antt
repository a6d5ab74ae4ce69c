-- How a line is read, exactly: byte after byte, to a space or the line's end.
use Rattle.std.specs.Prelude.{ℕ, ◌+◌, ◌-◌, ◌*◌, ◌≤◌, ◌<◌, ◌≡◌, ◌≢◌, Bool, true, false, not, ◌&&◌, List, [], ◌∷◌, eqb, leb, length, get_or, take, drop, Option, Some, None}
use Rattle.std.specs.Char.{is_ascii_digit}
use Rattle.rules.specs.Limit as Limit
use Rattle.script_text.specs.Numeral.{Says}
use Rattle.script_text.specs.Lines.{longest}
use Rattle.script_text.specs.declared.read.Number.{Number}

-- byte b goes on with a number whose digits so far say v: "no leading zeros", "up to 4,294,967,295"
unfoldable pub extends : ℕ → ℕ → Bool
extends v b = not (eqb v 0) && (is_ascii_digit b && leb (v * 10 + (b - 48)) Limit.word)

-- a number and what stands after it
pub record Scan : Type 0 where
  pub ok : Bool
  pub value : ℕ
  pub rest : List ℕ

abbrev pub failed : Scan
failed = record { ok = false; value = 0; rest = [] }

abbrev pub found : ℕ → List ℕ → Scan
found v rest = record { ok = true; value = v; rest = rest }

-- after digits that say v
unfoldable pub scan_on : ℕ → List ℕ → Scan
scan_on v [] = found v []
scan_on v (b ∷ s) = elim (eqb b 32) [
  | true ↦ found v (b ∷ s)
  | false ↦ elim (extends v b) [ true ↦ scan_on (v * 10 + (b - 48)) s | false ↦ failed ]
]

-- where a number has to start
unfoldable pub scan : List ℕ → Scan
scan [] = failed
scan (b ∷ s) = elim (is_ascii_digit b) [ true ↦ scan_on (b - 48) s | false ↦ failed ]

-- ---- what the code answers

-- an answer as a scan of the line
abbrev pub scan_of : List ℕ → Option Number → Scan
scan_of line (Some n) = found n.value (drop n.end line)
scan_of line None = failed

-- the place after a number is in the line, or its end
abbrev pub Within : List ℕ → Option Number → Type 0
Within line (Some n) = n.end ≤ length line
Within line None = Unit {0}

-- what goes on from place `at`, after digits that say v
pub record ScanOnIs (line : List ℕ) (at v : ℕ) (r : Option Number) : Type 0 where
  pub is : scan_on v (drop at line) ≡ scan_of line r
  pub within : Within line r

-- no digit stands at place `at`, after digits that say v, which is not 0
pub record NoDigit (line : List ℕ) (at v : ℕ) : Type 0 where
  pub within : at < length line
  pub other : is_ascii_digit (get_or line at 0) ≡ false
  pub some : v ≢ 0
  pub fits : v ≤ Limit.word

-- three bytes stand from place `at` on, after a digit that says v, which is not 0
pub record Near (line : List ℕ) (at v : ℕ) : Type 0 where
  pub within : at + 3 ≤ length line
  pub some : v ≢ 0
  pub digit : v ≤ 9

-- the number at place `at` of a line, and the place after it
pub record NumberAt (line : List ℕ) (at : ℕ) (r : Option Number) : Type 0 where
  pub is : scan (drop at line) ≡ scan_of line r
  pub within : Within line r

-- n numbers, which a line says, stand at the front of `out`, and the cells after them are as they were
pub record FrontSays (line out out' : List ℕ) (n : ℕ) : Type 0 where
  pub count : n ≤ length out
  pub kept : drop n out' ≡ drop n out
  pub says : Says line (take n out')

-- so many do; or the line says no numbers that `out` has cells for
abbrev pub ReadIs : List ℕ → List ℕ → List ℕ → Option ℕ → Type 0
ReadIs line out out' (Some n) = FrontSays line out out' n
ReadIs line out out' None = (ns : List ℕ) → Says line ns → length ns ≤ length out → ⊥

-- ---- a line and its numbers

-- a line of at most 2,048 bytes has the numbers that it says; a bad one, or a longer one, has none
pub data Means (line : List ℕ) : List ℕ → Type 0 where
  good : {ns : List ℕ} → length line ≤ longest → Says line ns → Means line ns
  bad : (length line ≤ longest → (ns : List ℕ) → Says line ns → ⊥) → Means line []

-- they stand at the front of `out`; what the cells after them hold is open
pub record LineIs (line out out' : List ℕ) (r : ℕ) : Type 0 where
  pub count : r ≤ length out
  pub means : Means line (take r out')
