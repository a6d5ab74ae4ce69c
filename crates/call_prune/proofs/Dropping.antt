-- The links once a leaf has ended. Its chain closes over it, it has no object and is the first free record; all
-- other rows and heads are as they were, and the shape is kept.
use Prim.Native.Nat.{ℕ, ◌+◌, ◌≤◌}
use mathlib.Core.Path.{◌≡◌, refl, ◌∙◌}
use mathlib.Core.Logic.{◌≢◌}
use mathlib.Core.List.{List, [], ◌∷◌}
use native.Mathlib.Omega.{arith}
use lib.ListN.{length, get_or}
use Rattle.rules.specs.Slots.{at}
use Rattle.rules.proofs.Tests.{by-eq}
use Rattle.rules.proofs.Slots.{at_here, at-else}
use Rattle.layout.specs.Layout as Layout
use Rattle.layout.specs.Rows.{master_of, serial_of, size_of, first_block_of, next_object_of, next_block_of}
use Rattle.layout.specs.Rows.{owner_of, parent_of, first_child_of, next_cap_of, prev_cap_of, rights_of, last_day_of}
use Rattle.layout.proofs.Puts.{Put, put, puts, Within, length-puts, field_puts, field-puts-at, head_puts, field-kept}
use Rattle.call_prune.specs.Links.{named_at, skipped, freed_cap, dropped_links, NamesSlots}
use Rattle.call_prune.proofs.Stores.{named-first, named-next}
use Rattle.call_prune.proofs.Removing.{Unlinks}

-- ---- what no end of capabilities changes

-- the rows and heads of objects and blocks, the day, and of capabilities the parents, the rights and the last days
pub record SameRows (l l' : List ℕ) : Type 0 where
  pub sized : length l' ≡ length l
  pub masters : master_of l' ≡ master_of l
  pub serials : serial_of l' ≡ serial_of l
  pub sizes : size_of l' ≡ size_of l
  pub first-blocks : first_block_of l' ≡ first_block_of l
  pub next-objects : next_object_of l' ≡ next_object_of l
  pub next-blocks : next_block_of l' ≡ next_block_of l
  pub parents : parent_of l' ≡ parent_of l
  pub rights : rights_of l' ≡ rights_of l
  pub last-days : last_day_of l' ≡ last_day_of l
  pub day : get_or l' Layout.DAY 0 ≡ get_or l Layout.DAY 0
  pub objects : get_or l' Layout.OBJECTS 0 ≡ get_or l Layout.OBJECTS 0
  pub free-objects : get_or l' Layout.FREE_OBJECTS 0 ≡ get_or l Layout.FREE_OBJECTS 0
  pub free-blocks : get_or l' Layout.FREE_BLOCKS 0 ≡ get_or l Layout.FREE_BLOCKS 0

pub rows_same : (l : List ℕ) → SameRows l l
rows_same l = record {
  sized = refl;
  masters = refl;
  serials = refl;
  sizes = refl;
  first-blocks = refl;
  next-objects = refl;
  next-blocks = refl;
  parents = refl;
  rights = refl;
  last-days = refl;
  day = refl;
  objects = refl;
  free-objects = refl;
  free-blocks = refl;
}

pub rows_then : {l m k : List ℕ} → SameRows l m → SameRows m k → SameRows l k
rows_then a b = record {
  sized = b.sized ∙ a.sized;
  masters = b.masters ∙ a.masters;
  serials = b.serials ∙ a.serials;
  sizes = b.sizes ∙ a.sizes;
  first-blocks = b.first-blocks ∙ a.first-blocks;
  next-objects = b.next-objects ∙ a.next-objects;
  next-blocks = b.next-blocks ∙ a.next-blocks;
  parents = b.parents ∙ a.parents;
  rights = b.rights ∙ a.rights;
  last-days = b.last-days ∙ a.last-days;
  day = b.day ∙ a.day;
  objects = b.objects ∙ a.objects;
  free-objects = b.free-objects ∙ a.free-objects;
  free-blocks = b.free-blocks ∙ a.free-blocks;
}

-- ---- the stores

-- the last to slot i of the row of n slots at off, which is what named the leaf
abbrev skips : ℕ → ℕ → ℕ → ℕ → ℕ → List Put
skips n off i q s = put 512 Layout.PREV_CAP s q ∷ put n off i s ∷ []

abbrev drops : ℕ → ℕ → ℕ → ℕ → ℕ → ℕ → ℕ → List Put
drops n off i q s j free =
    put 0 Layout.FREE_CAPS 0 j
    ∷ put 512 Layout.NEXT_CAP j free
    ∷ put 512 Layout.OWNER j 0
    ∷ skips n off i q s

module _ {l : List ℕ} {j : ℕ} (P : NamesSlots l j) (child : parent_of l j ≢ 0) where
  abbrev p : ℕ
  p = parent_of l j

  abbrev q : ℕ
  q = prev_cap_of l j

  abbrev s : ℕ
  s = next_cap_of l j

  abbrev free : ℕ
  free = get_or l Layout.FREE_CAPS 0

  abbrev l' : List ℕ
  l' = dropped_links l j

  -- what named the leaf is within 1025 cells, in both rows
  named-within : (i : ℕ) × (i ≤ 1025) × (named_at p q ≡ Layout.FIRST_CHILD + i)
  named-within = by-eq q 0
      (λ z. (p, omega (arith, P.parent-high), named-first p q z))
      (λ nz. (513 + q, omega (arith, P.prev-high), named-next p q nz ∙ omega arith))

  -- the first of the free records is as it was, once the leaf is out of its chain
  free-same : get_or (skipped l p q s) Layout.FREE_CAPS 0 ≡ free
  free-same = rw named-within.2
      (head_puts Layout.FREE_CAPS l (omega (arith, P.links)) (skips 1025 Layout.FIRST_CHILD named-within.0 q s) refl
      (omega (arith, P.next-high, named-within.1)))

  as-puts : (n off i : ℕ) → named_at p q ≡ off + i → l' ≡ puts (drops n off i q s j free) l
  unfolding dropped_links freed_cap
  as-puts n off i e = rw (free-same, e) refl

  -- ---- the rows of first children and next siblings, by what named the leaf

  module _ (z : q ≡ 0) where
    abbrev ws₁ : List Put
    ws₁ = drops 512 Layout.FIRST_CHILD p q s j free

    firsts₁ : first_child_of l' ≡ at (first_child_of l) p s
    firsts₁ = rw (as-puts 512 Layout.FIRST_CHILD p (named-first p q z))
        (field_puts 512 Layout.FIRST_CHILD l (omega (arith, P.links)) ws₁ refl
        (omega (arith, P.high, P.prev-high, P.next-high, P.parent-high)) (omega arith))

    nexts₁ : next_cap_of l' ≡ at (next_cap_of l) j free
    nexts₁ = rw (as-puts 512 Layout.FIRST_CHILD p (named-first p q z))
        (field_puts 512 Layout.NEXT_CAP l (omega (arith, P.links)) ws₁ refl
        (omega (arith, P.high, P.prev-high, P.next-high, P.parent-high)) (omega (arith, P.low)))

  module _ (nz : q ≢ 0) where
    abbrev ws₂ : List Put
    ws₂ = drops 512 Layout.NEXT_CAP q q s j free

    firsts₂ : first_child_of l' ≡ first_child_of l
    firsts₂ = rw (as-puts 512 Layout.NEXT_CAP q (named-next p q nz))
        (field-kept 512 Layout.FIRST_CHILD l ws₂ refl
        (omega (arith, P.high, P.prev-high, P.next-high, P.parent-high)))

    nexts₂ : next_cap_of l' ≡ at (at (next_cap_of l) q s) j free
    nexts₂ = rw (as-puts 512 Layout.NEXT_CAP q (named-next p q nz))
        (field_puts 512 Layout.NEXT_CAP l (omega (arith, P.links)) ws₂ refl
        (omega (arith, P.high, P.prev-high, P.next-high, P.parent-high)) (omega (arith, P.low)))

  -- ---- the other rows

  abbrev ws : List Put
  ws = drops 1025 Layout.FIRST_CHILD named-within.0 q s j free

  is-puts : l' ≡ puts ws l
  is-puts = as-puts 1025 Layout.FIRST_CHILD named-within.0 named-within.2

  in_rows : Within ws
  in_rows = omega (arith, P.high, P.next-high, named-within.1)

  pub dropped-owners : owner_of l' ≡ at (owner_of l) j 0
  dropped-owners = rw is-puts (field_puts 512 Layout.OWNER l (omega (arith, P.links)) ws refl in_rows
      (omega (arith, P.low)))

  prevs : (k : ℕ) → 1 ≤ k → prev_cap_of l' k ≡ at (prev_cap_of l) s q k
  prevs = rw is-puts (field-puts-at 512 Layout.PREV_CAP l (omega (arith, P.links)) ws refl in_rows)

  pub free-head : get_or l' Layout.FREE_CAPS 0 ≡ j
  free-head = rw is-puts (head_puts Layout.FREE_CAPS l (omega (arith, P.links)) ws refl in_rows)

  pub dropped-rows : SameRows l l'
  dropped-rows = rw is-puts (record {
    sized = length-puts ws l;
    masters = field-kept 64 Layout.MASTER l ws refl in_rows;
    serials = field-kept 64 Layout.SERIAL l ws refl in_rows;
    sizes = field-kept 64 Layout.SIZE l ws refl in_rows;
    first-blocks = field-kept 64 Layout.FIRST_BLOCK l ws refl in_rows;
    next-objects = field-kept 64 Layout.NEXT_OBJECT l ws refl in_rows;
    next-blocks = field-kept 512 Layout.NEXT_BLOCK l ws refl in_rows;
    parents = field-kept 512 Layout.PARENT l ws refl in_rows;
    rights = field-kept 512 Layout.RIGHTS l ws refl in_rows;
    last-days = field-kept 512 Layout.LAST_DAY l ws refl in_rows;
    day = head_puts Layout.DAY l (omega (arith, P.links)) ws refl in_rows;
    objects = head_puts Layout.OBJECTS l (omega (arith, P.links)) ws refl in_rows;
    free-objects = head_puts Layout.FREE_OBJECTS l (omega (arith, P.links)) ws refl in_rows;
    free-blocks = head_puts Layout.FREE_BLOCKS l (omega (arith, P.links)) ws refl in_rows;
  })

  -- ---- together

  pub free-next : next_cap_of l' j ≡ free
  free-next = by-eq q 0
      (λ z. (λ i. nexts₁ z i j) ∙ at_here (next_cap_of l) j free)
      (λ nz. (λ i. nexts₂ nz i j) ∙ at_here (at (next_cap_of l) q s) j free)

  pub next-kept : (k : ℕ) → k ≢ j → (k ≡ q → q ≢ 0 → ⊥) → next_cap_of l' k ≡ next_cap_of l k
  next-kept k kj kq = by-eq q 0
      (λ z. (λ i. nexts₁ z i k) ∙ at-else (next_cap_of l) j free k kj)
      (λ nz. (λ i. nexts₂ nz i k) ∙ at-else (at (next_cap_of l) q s) j free k kj
      ∙ at-else (next_cap_of l) q s k (λ e. kq e nz))

  pub unlinks : Unlinks (owner_of l) (parent_of l) (first_child_of l) (next_cap_of l) (prev_cap_of l)
      (owner_of l') (parent_of l') (first_child_of l') (next_cap_of l') (prev_cap_of l') j p q s
  unlinks = record {
    owner-kept = λ k ne. (λ i. dropped-owners i k) ∙ at-else (owner_of l) j 0 k ne;
    above_kept = λ k. λ i. dropped-rows.parents i k;
    first-kept = λ k ne. by-eq q 0
        (λ z. (λ i. firsts₁ z i k) ∙ at-else (first_child_of l) p s k (λ e. ne e z))
        (λ nz. λ i. firsts₂ nz i k);
    first-new = λ z. (λ i. firsts₁ z i p) ∙ at_here (first_child_of l) p s;
    next-kept = next-kept;
    next-new = λ nz ne. (λ i. nexts₂ nz i q) ∙ at-else (at (next_cap_of l) q s) j free q ne
        ∙ at_here (next_cap_of l) q s;
    back-kept = λ k lo ne. prevs k lo ∙ at-else (prev_cap_of l) s q k ne;
    back-new = λ nz. prevs s (omega arith) ∙ at_here (prev_cap_of l) s q;
  }
