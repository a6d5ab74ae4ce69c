-- The two answers: what the rules say of the fresh store goes into the contract here.
use Prim.Native.Nat.{ℕ}
use mathlib.Core.Path.{refl}
use mathlib.Core.List.{List}
use Rattle.rules.specs.Store.{Password}
use Rattle.rules.specs.Demand.{FreshWords}
use Rattle.layout.specs.WellFormed.{Sized}
use Rattle.kernel_fresh.specs.Fresh.{AllWritten, Fresh}
use Rattle.rules.proofs.Theorems.{fresh-valid}
use Rattle.kernel_fresh.proofs.Meaning.{fresh-means}
use Rattle.kernel_fresh.proofs.Formed.{fresh-formed}

module _ {supply : ℕ} {p : Password} (fit : FreshWords supply p) {b l w : List ℕ} where
  pub refuse : (Sized b l w → ⊥) → Fresh supply p b l w b l w 1
  refuse other = record {
    refused = λ n. record { answer = refl; bytes = refl; links = refl; words = refl };
    made = λ s. absurd (other s);
    means = fresh-means supply p;
    formed = fresh-formed fresh-valid supply p fit;
  }

  pub make : {b' l' w' : List ℕ} → Sized b l w → AllWritten supply p b' l' w' 0 → Fresh supply p b l w b' l' w' 0
  make sized made = record {
    refused = λ n. absurd (n sized);
    made = λ s. made;
    means = fresh-means supply p;
    formed = fresh-formed fresh-valid supply p fit;
  }
