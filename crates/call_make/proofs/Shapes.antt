-- The shape of the links once the object is made.
use Prim.Native.Nat.{ℕ, ◌≤◌}
use mathlib.Core.Path.{◌≡◌, refl, ap, ◌∙◌}
use mathlib.Core.Logic.{◌≢◌}
use mathlib.Core.List.{List}
use native.Mathlib.Omega.{arith}
use lib.ListN.{length, get_or}
use Rattle.rules.specs.Slots.{at}
use Rattle.rules.specs.Store.{Cap, blocks}
use Rattle.layout.specs.Layout as Layout
use Rattle.layout.specs.Rows.{master_of, next_object_of}
use Rattle.layout.specs.Shape.{times, Objects, Caps, Blocks, Shape}
use Rattle.layout.proofs.Linking.{times-append}
use Rattle.layout.proofs.FreeCaps.{FirstFree, first-free}
use Rattle.call_steps.specs.Tests.{ObjectSlot}
use Rattle.call_blocks.specs.Taking.{taken_links}
use Rattle.call_blocks.proofs.Taken.{taken-split}
use Rattle.call_blocks.proofs.Shaping.{taken-blocks}
use Rattle.call_grow.specs.Made.{free_cap, new_links}
use Rattle.call_grow.proofs.Making.{OneSlot, one-slot, MadeLinks, made-links}
use Rattle.call_make.specs.Runs.{free_object, object_links, WereFree}
use Rattle.call_make.proofs.Rows.{Recorded, recorded}
use Rattle.call_make.proofs.Chained.{object-moved}
use Rattle.call_make.proofs.Rooted.{Roots, cap-rooted}

-- l₂ are the links before the master is made, l' those after it
pub record LinksMade (l l₂ l' : List ℕ) (o i : ℕ) : Type 0 where
  pub object-long : length l₂ ≡ Layout.LINKS
  pub long : length l' ≡ Layout.LINKS
  pub master : OneSlot (master_of l) (master_of l') o i
  pub shape : Shape l'
  pub free : WereFree l l' o

module _ (l : List ℕ) (long : length l ≡ Layout.LINKS) (s : Shape l) (S : ObjectSlot (free_object l))
    (dead : master_of l (free_object l) ≡ 0) (some : free_cap l ≢ 0) (serial size : ℕ)
    (room : blocks size ≤ length s.blocks.free) (x : Cap) (object-is : x.object ≡ free_object l)
    (parent_is : x.parent ≡ 0) where
  abbrev o : ℕ
  o = free_object l

  abbrev i : ℕ
  i = free_cap l

  F : FirstFree l s.caps i
  F = first-free l s.caps some

  abbrev l₂ : List ℕ
  l₂ = object_links l o (blocks size) serial size i

  abbrev l' : List ℕ
  l' = new_links l₂ i x 0

  D : Recorded l (taken_links l o (blocks size)) l₂ o serial size i
  D = recorded l o serial size i S (blocks size)
      (record { links = long; chain = (s.blocks.free, s.blocks.free-chain, room) })

  M : MadeLinks l₂ l' i x 0
  M = made-links l₂ i x 0 (D.long ∙ long) F.low F.high

  masters : master_of l' ≡ at (master_of l) o i
  masters = M.master-same ∙ D.master-is

  objects : Objects l'
  objects = rw (
    masters,
    M.next-object-same ∙ D.next-object-is,
    M.objects-head ∙ D.objects-head,
    M.free-objects-head ∙ D.free-objects-head,
  ) (object-moved (master_of l) (next_object_of l) (get_or l Layout.OBJECTS 0) o s.objects
      (λ z. omega (arith, S.low)) i some)

  roots : Roots l l' o i
  roots = record {
    master-is = masters;
    owner_here = M.owner-is.here ∙ object-is;
    parent-here = M.parent_is.here ∙ parent_is;
    first-here = M.first-child-is.here;
    next_here = M.next-cap-is.here;
    prev-here = M.prev-cap-is.here;
    else = λ k ne. record {
      owner-same = M.owner-is.else k ne ∙ (λ j. D.owner-same j k);
      above_same = M.parent_is.else k ne ∙ (λ j. D.parent-same j k);
      first-same = M.first-child-is.else k ne ∙ (λ j. D.first-child-same j k);
      next-same = M.next-cap-is.else k ne ∙ (λ j. D.next-cap-same j k);
      back-same = M.prev-cap-is.else k ne ∙ (λ j. D.prev-cap-same j k);
    };
  }

  caps : Caps l'
  caps = rw (M.free-caps-head ∙ (λ j. D.next-cap-same j i))
      (cap-rooted l l' o i S.low S.high s.caps F dead roots)

  held : Blocks l'
  held = rw (
    masters,
    M.size_same ∙ D.size_is,
    M.first-block-same ∙ D.first-block-is,
    M.next-block-same ∙ D.next-block-is,
    M.free-blocks-head ∙ D.free-blocks-head,
  ) (taken-blocks l long o S.low S.high s.blocks dead (blocks size) room i size some refl)

  were-free : WereFree l l' o
  were-free =
      let T = taken-split l long o S.low S.high s.blocks (blocks size) room in
      record {
        blocks = T.front;
        chain = rw (M.next-block-same ∙ D.next-block-is, M.first-block-same ∙ D.first-block-is) T.front-chain;
        free = s.blocks.free;
        free-chain = s.blocks.free-chain;
        were = λ k h. omega (arith, h, ap (times k) T.is, times-append k T.front T.back);
      }

  pub links-made : LinksMade l l₂ l' o i
  links-made = record {
    object-long = D.long ∙ long;
    long = M.long ∙ D.long ∙ long;
    master = one-slot masters;
    shape = record { objects = objects; caps = caps; blocks = held };
    free = were-free;
  }
