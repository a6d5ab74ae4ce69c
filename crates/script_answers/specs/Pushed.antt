-- Numbers written one after another, each with a space before it.
use Rattle.std.specs.Prelude.{ℕ, ◌+◌, ◌≤◌, List, length}
use Rattle.script_text.specs.Numeral.{after}
use Rattle.script_text.specs.Pasted.{Wrote}

-- ns stand from place `at` on, and r is the place after them; they take `most` places at most
pub record Pushed (most : ℕ) (out : List ℕ) (at : ℕ) (ns out' : List ℕ) (r : ℕ) : Type 0 where
  pub low : at ≤ length out
  pub wrote : Wrote out at (after ns) out' r
  pub room : r ≤ at + most

-- so many bytes of the buffer, 256 at most
pub record BytesCounted (buffer : List ℕ) (count : ℕ) : Type 0 where
  pub low : count ≤ length buffer
  pub high : count ≤ 256
