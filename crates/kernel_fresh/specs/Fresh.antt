-- 01, "Fresh store": what making one answers and leaves.
use Rattle.std.specs.Prelude.{ℕ, ◌≡◌, List}
use Rattle.rules.specs.Store.{Password}
use Rattle.rules.specs.Store as Store
use Rattle.layout.specs.View.{view}
use Rattle.layout.specs.WellFormed.{Sized, WellFormed}
use Rattle.kernel_fresh.specs.Slices.{fresh_bytes, fresh_links, fresh_words}

-- slices of any other length give 1 and are not written
pub record NotWritten (b l w b' l' w' : List ℕ) (r : ℕ) : Type 0 where
  pub answer : r ≡ 1
  pub bytes : b' ≡ b
  pub links : l' ≡ l
  pub words : w' ≡ w

-- else every cell is written, whatever stood there
pub record AllWritten (supply : ℕ) (p : Password) (b' l' w' : List ℕ) (r : ℕ) : Type 0 where
  pub answer : r ≡ 0
  pub bytes : b' ≡ fresh_bytes
  pub links : l' ≡ fresh_links
  pub words : w' ≡ fresh_words supply p

-- b, l, w are the slices at entry, b', l', w' those at exit, r is the answer
pub record Fresh (supply : ℕ) (p : Password) (b l w b' l' w' : List ℕ) (r : ℕ) : Type 0 where
  pub refused : (Sized b l w → ⊥) → NotWritten b l w b' l' w' r
  pub made : Sized b l w → AllWritten supply p b' l' w' r
  -- what is made means the rules' fresh store, and is well formed
  pub means : view fresh_bytes fresh_links (fresh_words supply p) ≡ Store.fresh supply p
  pub formed : WellFormed fresh_bytes fresh_links (fresh_words supply p)
