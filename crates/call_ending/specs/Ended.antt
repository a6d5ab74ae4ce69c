-- 01, "With a master the object ends too": what is asked of the store, of the code and of the laws.
use Rattle.std.specs.Prelude.{ℕ, ◌≡◌, ◌≢◌, List}
use Rattle.layout.specs.Rows.{master_of, first_child_of}
use Rattle.layout.specs.Shape.{Shape}
use Rattle.layout.specs.WellFormed.{Sized, Cells}
use Rattle.call_ending.specs.Forfeit.{ForfeitAsks, ended_words}
use Rattle.call_ending.specs.Links.{BlocksAsk, ended_links}

pub record EndAsks (b l w : List ℕ) (o m : ℕ) : Type 0 where
  pub words : ForfeitAsks b w o m
  pub blocks : BlocksAsk l o

-- that is what l' and w' are
pub record EndsObject (b l w : List ℕ) (o m : ℕ) (l' w' : List ℕ) : Type 0 where
  pub links : l' ≡ ended_links l o m
  pub words : w' ≡ ended_words b w o m

-- the object in slot o lives, and its master m is the last of its capabilities
pub record Last (b l w : List ℕ) (o m : ℕ) : Type 0 where
  pub sized : Sized b l w
  pub cells : Cells b l
  pub shape : Shape l
  pub master : master_of l o ≡ m
  pub live : m ≢ 0
  pub leaf : first_child_of l m ≡ 0
