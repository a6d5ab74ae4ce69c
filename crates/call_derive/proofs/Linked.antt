-- The links with the child linked: the record is made, then two links name it. Each row, and what of it the tree needs.
use Prim.Native.Nat.{ℕ, ◌≤◌}
use mathlib.Core.Path.{◌≡◌, refl, sym, ◌∙◌}
use mathlib.Core.Logic.{◌≢◌}
use mathlib.Core.List.{List, [], ◌∷◌}
use native.Mathlib.Omega.{arith}
use lib.ListN.{length, get_or}
use Rattle.rules.specs.Slots.{at}
use Rattle.rules.specs.Store.{Cap}
use Rattle.rules.proofs.Slots.{at_here, at-else}
use Rattle.layout.specs.Layout as Layout
use Rattle.layout.specs.Rows.{master_of, serial_of, size_of, first_block_of, next_object_of, next_block_of}
use Rattle.layout.specs.Rows.{owner_of, parent_of, first_child_of, next_cap_of, prev_cap_of, rights_of, last_day_of}
use Rattle.layout.proofs.Puts.{Put, put, puts, length-puts, field_puts, field-puts-at, field-kept, head_puts}
use Rattle.call_grow.specs.Made.{new_links}
use Rattle.call_grow.proofs.Making.{OneSlot, one-slot, MadeLinks, made-links}
use Rattle.call_derive.specs.Runs.{derived_links}
use Rattle.call_derive.proofs.Grafting.{Joined}

-- m is l with two links changed, to a first child and to a previous sibling: what does not hold those is as it was
pub record Relinked (l m : List ℕ) : Type 0 where
  pub long : length m ≡ length l
  pub master-same : master_of m ≡ master_of l
  pub serial-same : serial_of m ≡ serial_of l
  pub size_same : size_of m ≡ size_of l
  pub first-block-same : first_block_of m ≡ first_block_of l
  pub next-object-same : next_object_of m ≡ next_object_of l
  pub next-block-same : next_block_of m ≡ next_block_of l
  pub objects-head : get_or m Layout.OBJECTS 0 ≡ get_or l Layout.OBJECTS 0
  pub free-objects-head : get_or m Layout.FREE_OBJECTS 0 ≡ get_or l Layout.FREE_OBJECTS 0
  pub free-blocks-head : get_or m Layout.FREE_BLOCKS 0 ≡ get_or l Layout.FREE_BLOCKS 0
  pub free-caps-head : get_or m Layout.FREE_CAPS 0 ≡ get_or l Layout.FREE_CAPS 0
  pub owner-same : owner_of m ≡ owner_of l
  pub parent-same : parent_of m ≡ parent_of l
  pub next-cap-same : next_cap_of m ≡ next_cap_of l
  pub rights-same : rights_of m ≡ rights_of l
  pub last-day-same : last_day_of m ≡ last_day_of l
  pub day-same : get_or m Layout.DAY 0 ≡ get_or l Layout.DAY 0

-- k's first child is i, and so is the record before next
module _ (l : List ℕ) (i k next : ℕ) (long : length l ≡ Layout.LINKS) (low : 1 ≤ k) (high : k ≤ 512)
    (next-high : next ≤ 512) where
  abbrev ws : List Put
  ws = put 512 Layout.PREV_CAP next i ∷ put 512 Layout.FIRST_CHILD k i ∷ []

  relinked : Relinked l (puts ws l)
  relinked = record {
    long = length-puts ws l;
    master-same = field-kept 64 Layout.MASTER l ws refl (omega arith);
    serial-same = field-kept 64 Layout.SERIAL l ws refl (omega arith);
    size_same = field-kept 64 Layout.SIZE l ws refl (omega arith);
    first-block-same = field-kept 64 Layout.FIRST_BLOCK l ws refl (omega arith);
    next-object-same = field-kept 64 Layout.NEXT_OBJECT l ws refl (omega arith);
    next-block-same = field-kept 512 Layout.NEXT_BLOCK l ws refl (omega arith);
    objects-head = head_puts Layout.OBJECTS l (omega arith) ws refl (omega arith);
    free-objects-head = head_puts Layout.FREE_OBJECTS l (omega arith) ws refl (omega arith);
    free-blocks-head = head_puts Layout.FREE_BLOCKS l (omega arith) ws refl (omega arith);
    free-caps-head = head_puts Layout.FREE_CAPS l (omega arith) ws refl (omega arith);
    owner-same = field-kept 512 Layout.OWNER l ws refl (omega arith);
    parent-same = field-kept 512 Layout.PARENT l ws refl (omega arith);
    next-cap-same = field-kept 512 Layout.NEXT_CAP l ws refl (omega arith);
    rights-same = field-kept 512 Layout.RIGHTS l ws refl (omega arith);
    last-day-same = field-kept 512 Layout.LAST_DAY l ws refl (omega arith);
    day-same = head_puts Layout.DAY l (omega arith) ws refl (omega arith);
  }

  first-child-put : OneSlot (first_child_of l) (first_child_of (puts ws l)) k i
  first-child-put = one-slot (field_puts 512 Layout.FIRST_CHILD l (omega arith) ws refl (omega arith) (omega arith))

  prev-cap-put : (j : ℕ) → 1 ≤ j → prev_cap_of (puts ws l) j ≡ at (prev_cap_of l) next i j
  prev-cap-put j p = field-puts-at 512 Layout.PREV_CAP l (omega arith) ws refl (omega arith) j p

-- two equal rows in a slot
in-slot : {f g : ℕ → ℕ} → f ≡ g → (j : ℕ) → f j ≡ g j
in-slot e j = λ t. e t j

module _ (l : List ℕ) (i k : ℕ) (x : Cap) (next : ℕ) (long : length l ≡ Layout.LINKS) (low : 1 ≤ i) (high : i ≤ 512)
    (k-low : 1 ≤ k) (k-high : k ≤ 512) (next-high : next ≤ 512) where
  abbrev made : List ℕ
  made = new_links l i x next

  M : MadeLinks l made i x next
  M = made-links l i x next long low high

  pub derived-relinked : Relinked made (derived_links l i k x next)
  unfolding derived_links
  derived-relinked = relinked made i k next (M.long ∙ long) k-low k-high next-high

  R : Relinked made (derived_links l i k x next)
  R = derived-relinked

  first-child : OneSlot (first_child_of made) (first_child_of (derived_links l i k x next)) k i
  unfolding derived_links
  first-child = first-child-put made i k next (M.long ∙ long) k-low k-high next-high

  prev-cap : (j : ℕ) → 1 ≤ j → prev_cap_of (derived_links l i k x next) j ≡ at (prev_cap_of made) next i j
  unfolding derived_links
  prev-cap = prev-cap-put made i k next (M.long ∙ long) k-low k-high next-high

  pub derived-joined : k ≢ i → next ≢ i → x.parent ≡ k → Joined l (derived_links l i k x next) x.object k i next
  derived-joined ki ni above = record {
    owner-kept = λ j ne. in-slot R.owner-same j ∙ M.owner-is.else j ne;
    parent-kept = λ j ne. in-slot R.parent-same j ∙ M.parent_is.else j ne;
    first-kept = λ j ne nk. first-child.else j nk ∙ M.first-child-is.else j ne;
    next-kept = λ j ne. in-slot R.next-cap-same j ∙ M.next-cap-is.else j ne;
    prev-kept = λ j p ne nn. prev-cap j p ∙ at-else (prev_cap_of made) next i j nn ∙ M.prev-cap-is.else j ne;
    new-owner = in-slot R.owner-same i ∙ M.owner-is.here;
    new-parent = in-slot R.parent-same i ∙ M.parent_is.here ∙ above;
    new-first = first-child.else i (λ e. ki (sym e)) ∙ M.first-child-is.here;
    new-next = in-slot R.next-cap-same i ∙ M.next-cap-is.here;
    new-prev = prev-cap i low ∙ at-else (prev_cap_of made) next i i (λ e. ni (sym e)) ∙ M.prev-cap-is.here;
    top-first = first-child.here;
    head-prev = λ p. prev-cap next p ∙ at_here (prev_cap_of made) next i;
  }
