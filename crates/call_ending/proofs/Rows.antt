-- The rows and heads of the links after the end of an object: ten stores, and what each row is after them.
use Prim.Native.Nat.{ℕ, ◌≤◌}
use mathlib.Core.Path.{◌≡◌, refl, ap}
use mathlib.Core.List.{List, [], ◌∷◌}
use native.Mathlib.Omega.{arith}
use lib.Dec.{eqb}
use lib.ListN.{length, get_or}
use Rattle.rules.specs.Slots.{at, find}
use Rattle.layout.specs.Layout as Layout
use Rattle.layout.specs.Rows.{master_of, serial_of, size_of, first_block_of, next_object_of, next_block_of}
use Rattle.layout.specs.Rows.{owner_of, parent_of, first_child_of, next_cap_of, prev_cap_of, rights_of, last_day_of}
use Rattle.layout.proofs.Puts.{Put, put, puts, length-puts, Within, field_puts, field-puts-at, head_puts, field-kept}
use Rattle.call_steps.specs.Tests.{ObjectSlot, CapSlot}
use Rattle.call_prune.specs.Links.{freed_cap}
use Rattle.call_ending.specs.Links.{instead, last_block, given_blocks, is_before, before, unlinked}
use Rattle.call_ending.specs.Links.{freed_object, ended_links}
use Rattle.call_ending.proofs.Walking.{before_high}

-- the object before o, by the row of next objects
before_same : (l l' : List ℕ) (o : ℕ) → next_object_of l' ≡ next_object_of l → before l' o ≡ before l o
unfolding before is_before
before_same l l' o e = ap (λ (f : ℕ → ℕ). find 64 (λ i. eqb (f i) o)) e

-- what the links l' are, by those before the end of the object in slot o with its master m
pub record EndedRows (l l' : List ℕ) (o m : ℕ) : Type 0 where
  pub long : length l' ≡ length l
  pub master : master_of l' ≡ at (master_of l) o 0
  pub serial : serial_of l' ≡ serial_of l
  pub size : size_of l' ≡ size_of l
  pub first : first_block_of l' ≡ first_block_of l
  pub owner : owner_of l' ≡ at (owner_of l) m 0
  pub parent : parent_of l' ≡ parent_of l
  pub child : first_child_of l' ≡ first_child_of l
  pub prev : prev_cap_of l' ≡ prev_cap_of l
  pub rights : rights_of l' ≡ rights_of l
  pub last-day : last_day_of l' ≡ last_day_of l
  pub day : get_or l' Layout.DAY 0 ≡ get_or l Layout.DAY 0
  pub cap : next_cap_of l' ≡ at (next_cap_of l) m (get_or l Layout.FREE_CAPS 0)
  pub object : (k : ℕ) → 1 ≤ k → next_object_of l' k
      ≡ at (at (next_object_of l) (before l o) (next_object_of l o)) o (get_or l Layout.FREE_OBJECTS 0) k
  pub block : (k : ℕ) → 1 ≤ k → next_block_of l' k ≡ at (next_block_of l) (last_block l o) (get_or l Layout.FREE_BLOCKS 0) k
  pub objects : get_or l' Layout.OBJECTS 0 ≡ instead (get_or l Layout.OBJECTS 0) o (next_object_of l o)
  pub free-objects : get_or l' Layout.FREE_OBJECTS 0 ≡ o
  pub free-caps : get_or l' Layout.FREE_CAPS 0 ≡ m
  pub free-blocks : get_or l' Layout.FREE_BLOCKS 0 ≡ instead (first_block_of l o) 0 (get_or l Layout.FREE_BLOCKS 0)

module _ (l : List ℕ) (long : length l ≡ Layout.LINKS) (o m : ℕ) (os : ObjectSlot o) (ms : CapSlot m)
    (last : last_block l o ≤ 512) where
  -- ---- the stores

  abbrev ws₁ : List Put
  ws₁ = put 0 Layout.FREE_BLOCKS 0 (instead (first_block_of l o) 0 (get_or l Layout.FREE_BLOCKS 0))
      ∷ put 512 Layout.NEXT_BLOCK (last_block l o) (get_or l Layout.FREE_BLOCKS 0)
      ∷ []

  abbrev ws₂ : List Put
  ws₂ = put 0 Layout.OBJECTS 0 (instead (get_or l Layout.OBJECTS 0) o (next_object_of l o))
      ∷ put 64 Layout.NEXT_OBJECT (before l o) (next_object_of l o)
      ∷ ws₁

  abbrev ws₃ : List Put
  ws₃ = put 0 Layout.FREE_OBJECTS 0 o
      ∷ put 64 Layout.NEXT_OBJECT o (get_or l Layout.FREE_OBJECTS 0)
      ∷ put 64 Layout.MASTER o 0
      ∷ ws₂

  abbrev ws : List Put
  ws = put 0 Layout.FREE_CAPS 0 m
      ∷ put 512 Layout.NEXT_CAP m (get_or l Layout.FREE_CAPS 0)
      ∷ put 512 Layout.OWNER m 0
      ∷ ws₃

  in₁ : Within ws₁
  in₁ = omega (arith, last)

  in₂ : Within ws₂
  in₂ = omega (arith, last, before_high l o)

  in₃ : Within ws₃
  in₃ = omega (arith, last, before_high l o, os.high)

  inside : Within ws
  inside = omega (arith, last, before_high l o, os.high, ms.high)

  given-puts : given_blocks l o ≡ puts ws₁ l
  unfolding given_blocks
  given-puts = refl

  -- what is read on the way is as it was
  unlinked-puts : unlinked (given_blocks l o) o ≡ puts ws₂ l
  unfolding unlinked
  unlinked-puts = rw (
    given-puts,
    before_same l (puts ws₁ l) o (field-kept 64 Layout.NEXT_OBJECT l ws₁ refl in₁),
    field-kept 64 Layout.NEXT_OBJECT l ws₁ refl in₁,
    head_puts Layout.OBJECTS l (omega arith) ws₁ refl in₁,
  )

  freed-puts : freed_object (unlinked (given_blocks l o) o) o ≡ puts ws₃ l
  unfolding freed_object
  freed-puts = rw (unlinked-puts, head_puts Layout.FREE_OBJECTS l (omega arith) ws₂ refl in₂)

  ended-puts : ended_links l o m ≡ puts ws l
  unfolding ended_links freed_cap
  ended-puts = rw (freed-puts, head_puts Layout.FREE_CAPS l (omega arith) ws₃ refl in₃)

  -- ---- the rows

  rows_of : EndedRows l (puts ws l) o m
  rows_of = record {
    long = length-puts ws l;
    master = field_puts 64 Layout.MASTER l (omega arith) ws refl inside (omega (arith, os.low));
    serial = field-kept 64 Layout.SERIAL l ws refl inside;
    size = field-kept 64 Layout.SIZE l ws refl inside;
    first = field-kept 64 Layout.FIRST_BLOCK l ws refl inside;
    owner = field_puts 512 Layout.OWNER l (omega arith) ws refl inside (omega (arith, ms.low));
    parent = field-kept 512 Layout.PARENT l ws refl inside;
    child = field-kept 512 Layout.FIRST_CHILD l ws refl inside;
    prev = field-kept 512 Layout.PREV_CAP l ws refl inside;
    rights = field-kept 512 Layout.RIGHTS l ws refl inside;
    last-day = field-kept 512 Layout.LAST_DAY l ws refl inside;
    day = head_puts Layout.DAY l (omega arith) ws refl inside;
    cap = field_puts 512 Layout.NEXT_CAP l (omega arith) ws refl inside (omega (arith, ms.low));
    object = field-puts-at 64 Layout.NEXT_OBJECT l (omega arith) ws refl inside;
    block = field-puts-at 512 Layout.NEXT_BLOCK l (omega arith) ws refl inside;
    objects = head_puts Layout.OBJECTS l (omega arith) ws refl inside;
    free-objects = head_puts Layout.FREE_OBJECTS l (omega arith) ws refl inside;
    free-caps = head_puts Layout.FREE_CAPS l (omega arith) ws refl inside;
    free-blocks = head_puts Layout.FREE_BLOCKS l (omega arith) ws refl inside;
  }

  pub ended-rows : EndedRows l (ended_links l o m) o m
  ended-rows = rw ended-puts rows_of
