-- Refusals 12 and 13 as the code comes to them.
use Prim.Native.Nat.{ℕ, ◌+◌}
use mathlib.Core.Path.{◌≡◌}
use mathlib.Core.Logic.{◌≢◌}
use mathlib.Core.Bool.{true, false, ◌||◌}
use mathlib.Core.List.{List}
use lib.Dec.{eqb}
use lib.ListN.{get_or, set}
use borrow.Author.Tests.{eq-eqb, ne_eqb, eqb-false}
use Rattle.rules.specs.Code as Code
use Rattle.rules.specs.Store.{Name, blocks, object_named}
use Rattle.rules.specs.Refusals.{◌when◌, first}
use Rattle.rules.proofs.Tests.{none2}
use Rattle.layout.specs.Layout as Layout
use Rattle.layout.specs.View.{view}
use Rattle.layout.proofs.Field.{field_in}
use Rattle.call_steps.specs.Tests.{ObjectSlot}
use Rattle.call_blocks.specs.Taking.{too_few}
use Rattle.call_grow.specs.Made.{free_cap}
use Rattle.call_make.specs.Runs.{free_object, no_space, make_stop, record_links}

module _ (l : List ℕ) (n : ℕ) where
  -- there is space
  pub record Space : Type 0 where
    pub object : free_object l ≢ 0
    pub cap : free_cap l ≢ 0
    pub few : too_few l n ≡ false

  pub space-is : no_space l n ≡ false → Space
  unfolding no_space
  space-is e =
      let f = none2 (eqb (free_object l) 0 || eqb (free_cap l) 0) (too_few l n) e in
      let g = none2 (eqb (free_object l) 0) (eqb (free_cap l) 0) f.0 in
      record { object = eqb-false (free_object l) 0 g.0; cap = eqb-false (free_cap l) 0 g.1; few = f.1 }

-- ---- the first that is met

module _ (b l w : List ℕ) (name : Name) (size : ℕ) where
  pub stop-name : object_named (view b l w) name ≢ 0 → make_stop b l w name size ≡ Code.taken
  unfolding make_stop first ◌when◌
  stop-name h = rw (ne_eqb (object_named (view b l w) name) 0 h, first)

  pub stop-space : object_named (view b l w) name ≡ 0 → no_space l (blocks size) ≡ true
      → make_stop b l w name size ≡ Code.no_space
  unfolding make_stop first ◌when◌
  stop-space z h = rw (eq-eqb (object_named (view b l w) name) 0 z, h, first)

  pub stop-none : object_named (view b l w) name ≡ 0 → no_space l (blocks size) ≡ false → make_stop b l w name size ≡ 0
  unfolding make_stop first ◌when◌
  stop-none z h = rw (eq-eqb (object_named (view b l w) name) 0 z, h, first)

-- ---- the record's links, where its next one is read first

pub links-recorded : (l : List ℕ) (o serial size i : ℕ) → ObjectSlot o
    → set
    (set
    (set
    (set
    (set (set l Layout.FREE_OBJECTS (get_or l (Layout.NEXT_OBJECT + o) 0)) (Layout.NEXT_OBJECT + o)
    (get_or l Layout.OBJECTS 0))
    Layout.OBJECTS
    o)
    (Layout.SERIAL + o)
    serial)
    (Layout.SIZE + o)
    size)
    (Layout.MASTER + o)
    i
    ≡ record_links l o serial size i
unfolding record_links
links-recorded l o serial size i s = rw (field_in 64 Layout.NEXT_OBJECT l o s.low s.high)
