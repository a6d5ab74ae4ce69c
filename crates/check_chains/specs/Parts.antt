-- The parts of a store that are chains of records.
use Rattle.std.specs.Prelude.{ℕ, ◌≤◌, ◌≡◌, ◌≢◌, List, length}
use Rattle.rules.specs.Limit as Limit
use Rattle.rules.specs.Slots.{sum_over}
use Rattle.layout.specs.Layout as Layout
use Rattle.layout.specs.Rows.{field}
use Rattle.layout.specs.Shape.{Chain, times, BlocksOf}
use Rattle.check_chains.specs.Marking.{AtSlots, VisitMarks, Part}

-- ---- one chain

-- the chain from head on, of which Also holds
abbrev pub chain_with : ℕ → (ℕ → ℕ) → (List ℕ → Type 0) → ℕ → Part
chain_with n next Also head = record {
  Thing = List ℕ;
  Fits = λ xs. Chain n next head xs × Also xs;
  holds = λ xs k. times k xs;
}

-- any chain
abbrev pub Any : List ℕ → Type 0
Any xs = Unit {0}

-- one of exactly m records
abbrev pub Long : ℕ → List ℕ → Type 0
Long m xs = length xs ≡ m

-- one of just the free records, those where f is 0
pub record FreeIn (f : ℕ → ℕ) (xs : List ℕ) (k : ℕ) : Type 0 where
  pub free : 1 ≤ times k xs → f k ≡ 0
  pub live : times k xs ≡ 0 → f k ≢ 0

abbrev pub JustFree : ℕ → (ℕ → ℕ) → List ℕ → Type 0
JustFree n f xs = AtSlots n (FreeIn f xs)

-- ---- the same by the row of links from off on

abbrev pub chain_in : ℕ → ℕ → List ℕ → (List ℕ → Type 0) → ℕ → Part
chain_in n off l = chain_with n (field n off l)

-- where the cell of a free record in the row from `row` on is 0
abbrev pub free_chain_in : ℕ → ℕ → ℕ → List ℕ → ℕ → Part
free_chain_in n off row l = chain_in n off l (JustFree n (field n row l))

-- ---- of every object

-- for each object of 1 to n a thing that fits, one after the other
abbrev pub each : {X : Type 0} → (ℕ → X → Type 0) → (X → ℕ → ℕ) → ℕ → Part
each {X} Fits holds n = record {
  Thing = ℕ → X;
  Fits = λ T. AtSlots n (λ o. Fits o (T o));
  holds = λ T k. sum_over n (λ o. holds (T o) k);
}

-- the blocks of object o
abbrev pub blocks_of : List ℕ → ℕ → Part
blocks_of l o = record { Thing = List ℕ; Fits = BlocksOf l o; holds = λ xs k. times k xs }

-- the blocks of the objects 1 to n
abbrev pub blocks_of_all : List ℕ → ℕ → Part
blocks_of_all l = each (BlocksOf l) (λ xs k. times k xs)

-- ---- what the functions ask for

-- the slice of links is whole, and there are marks for its 512 capabilities or blocks
pub record Checkable (l seen : List ℕ) : Type 0 where
  pub links : length l ≡ Layout.LINKS
  pub marks : VisitMarks Limit.caps seen

-- and o is the slot of an object
pub record CheckableAt (o : ℕ) (l seen : List ℕ) : Type 0 where
  pub low : 1 ≤ o
  pub high : o ≤ Limit.objects
  pub links : length l ≡ Layout.LINKS
  pub marks : VisitMarks Limit.caps seen
