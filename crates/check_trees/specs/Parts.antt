-- The parts of a store that are trees of capabilities.
use Rattle.std.specs.Prelude.{ℕ, ◌+◌, List, eqb}
use Rattle.rules.specs.Slots.{one}
use Rattle.layout.specs.Rows.{owner_of, parent_of, first_child_of, prev_cap_of}
use Rattle.layout.specs.Shape.{Forest, count, Agree, SoundIn, TreeOf}
use Rattle.check_chains.specs.Marking.{Part}
use Rattle.check_chains.specs.Parts.{each}

-- 01, "its links agree with its neighbours'": record j of object o, below parent and after prev
abbrev pub AgreeIn : List ℕ → ℕ → ℕ → ℕ → ℕ → Type 0
AgreeIn l = Agree (owner_of l) (parent_of l) (prev_cap_of l)

-- that record with the chain of its children
abbrev pub record_at : List ℕ → ℕ → ℕ → ℕ → ℕ → Part
record_at l o parent prev j = record {
  Thing = Forest;
  Fits = λ F. AgreeIn l o parent prev j × SoundIn l o j 0 (first_child_of l j) F;
  holds = λ F k. one (eqb k j) + count k F;
}

-- the chain of object o's records from head on, below parent and after prev
abbrev pub children_from : List ℕ → ℕ → ℕ → ℕ → ℕ → Part
children_from l o parent prev head = record {
  Thing = Forest;
  Fits = SoundIn l o parent prev head;
  holds = λ F k. count k F;
}

-- the tree of object o
abbrev pub tree_at : List ℕ → ℕ → Part
tree_at l o = record { Thing = Forest; Fits = TreeOf l o; holds = λ F k. count k F }

-- the trees of the objects 1 to n
abbrev pub trees_of_all : List ℕ → ℕ → Part
trees_of_all l = each (TreeOf l) (λ F k. count k F)
