-- What the shape of the links gives of each living capability and object: 01, "every object has one tree with one sound
-- master .. and a chain of exactly the blocks that its size needs, every climb by parents ends at that master".
use mathlib.Core.Path.{◌≡◌, refl, ap}
use mathlib.Core.Logic.{◌≢◌}
use mathlib.Core.List.{List, [], ◌∷◌}
use Prim.Native.Nat.{ℕ, ◌≤◌}
use native.Mathlib.Omega.{arith}
use native.Mathlib.Decide.{ℕ_discrete}
use lib.ListN.{length}
use Rattle.rules.specs.Store.{blocks}
use Rattle.rules.specs.Valid.{Climbs, top, step}
use Rattle.layout.specs.Layout as Layout
use Rattle.layout.specs.Rows.{master_of, size_of, first_block_of, next_block_of}
use Rattle.layout.specs.Rows.{owner_of, parent_of, first_child_of, next_cap_of}
use Rattle.layout.specs.Shape.{Chain, times, Forest, nil, node, count, Sound}
use Rattle.layout.specs.Shape.{SoundIn, TreeOf, Caps, Blocks, Shape}
use Rattle.layout.proofs.Field.{field-low, field-high}
use Rattle.layout.proofs.Counts.{one-other, sum-some}

-- i is a living capability of the living object o
pub record CapShaped (l : List ℕ) (o i : ℕ) : Type 0 where
  pub low : 1 ≤ i
  pub high : i ≤ 512
  pub owner-is : owner_of l i ≡ o
  pub owner-low : 1 ≤ o
  pub owner-high : o ≤ 64
  pub owner-lives : master_of l o ≢ 0
  -- a parent lives and is of the same object
  pub parent-owner : parent_of l i ≢ 0 → owner_of l (parent_of l i) ≡ o
  pub parent-lives : parent_of l i ≢ 0 → owner_of l (parent_of l i) ≢ 0
  -- and one with no parent is the master
  pub master-is : parent_of l i ≡ 0 → master_of l o ≡ i
  pub ends : (xs : List ℕ) × Climbs (parent_of l) i xs

-- o is a living object
pub record ObjectShaped (l : List ℕ) (o : ℕ) : Type 0 where
  pub low : 1 ≤ o
  pub high : o ≤ 64
  pub master-owner : owner_of l (master_of l o) ≡ o
  pub master-parent : parent_of l (master_of l o) ≡ 0
  pub chain : (xs : List ℕ) × Chain 512 (next_block_of l) (first_block_of l o) xs × (length xs ≡ blocks (size_of l o))

pub record Shaped (l : List ℕ) : Type 0 where
  pub cap : (i : ℕ) → owner_of l i ≢ 0 → CapShaped l (owner_of l i) i
  pub object : (o : ℕ) → master_of l o ≢ 0 → ObjectShaped l o

-- ---- the tree of a living object

module _ (l : List ℕ) (o : ℕ) where
  -- every record below a capability is one, too
  below : (p q h : ℕ) (F : Forest) → CapShaped l o p → SoundIn l o p q h F → (k : ℕ) → 1 ≤ count k F → CapShaped l o k
  unfolding Sound count
  below p q h nil a s k n = absurd (omega arith)
  below p q h (node j K R) a s k n =
      go (ℕ_discrete k j) (ℕ_discrete (count k K) 0)
      (below j 0 (first_child_of l j) K here s.2 k) (below p j (next_cap_of l j) R a s.3 k)
    where
      some : j ≢ 0
      some z = omega (arith, s.1.low)

      child : parent_of l j ≢ 0
      child z = omega (arith, s.1.parent_is, a.low)

      parent-owner : owner_of l (parent_of l j) ≡ o
      parent-owner = rw s.1.parent_is a.owner-is

      here : CapShaped l o j
      here = record {
        low = s.1.low;
        high = s.1.high;
        owner-is = s.1.owner-is;
        owner-low = a.owner-low;
        owner-high = a.owner-high;
        owner-lives = a.owner-lives;
        parent-owner = λ ne. parent-owner;
        parent-lives = λ ne z. omega (arith, parent-owner, a.owner-low);
        master-is = λ z. absurd (child z);
        ends = (j ∷ a.ends.0, step {xs = a.ends.0} some (rw s.1.parent_is a.ends.1));
      }

      go : Dec (k ≡ j) → Dec (count k K ≡ 0) → (1 ≤ count k K → CapShaped l o k) → (1 ≤ count k R → CapShaped l o k)
          → CapShaped l o k
      go (yes e) d in-K in-R = rw e here
      go (no ne) (yes z) in-K in-R = in-R (omega (arith, one-other k j ne))
      go (no ne) (no nz) in-K in-R = in-K (omega arith)

  module _ (low : 1 ≤ o) (high : o ≤ 64) (F : Forest) (t : TreeOf l o F) (alive : master_of l o ≢ 0) where
    abbrev children : Forest
    children = (t.live alive).0

    whole : SoundIn l o 0 0 (master_of l o) (node (master_of l o) children nil)
    whole = rw (t.live alive).1 at (t.live alive).2

    master : CapShaped l o (master_of l o)
    unfolding Sound
    master = record {
      low = whole.1.low;
      high = whole.1.high;
      owner-is = whole.1.owner-is;
      owner-low = low;
      owner-high = high;
      owner-lives = alive;
      parent-owner = λ ne. absurd (ne whole.1.parent_is);
      parent-lives = λ ne. absurd (ne whole.1.parent_is);
      master-is = λ z. refl;
      ends = (master_of l o ∷ [], step {xs = []} alive (rw whole.1.parent_is top));
    }

    in_tree : (k : ℕ) → 1 ≤ count k F → CapShaped l o k
    unfolding Sound count
    in_tree k n = go (ℕ_discrete k (master_of l o))
      where
        go : Dec (k ≡ master_of l o) → CapShaped l o k
        go (yes e) = rw e master
        go (no ne) = below (master_of l o) 0 (first_child_of l (master_of l o)) children master whole.2 k
            (omega (arith, n, ap (λ x. count k x) (t.live alive).1, one-other k (master_of l o) ne))

-- ---- of the whole shape

module _ (l : List ℕ) (c : Caps l) where
  -- a record of an object's tree is a living capability of it
  pub of_tree : (k o : ℕ) → 1 ≤ o → o ≤ 64 → 1 ≤ count k (c.tree o) → CapShaped l o k
  unfolding count
  of_tree k o low high n = go (ℕ_discrete (master_of l o) 0)
    where
      go : Dec (master_of l o ≡ 0) → CapShaped l o k
      go (yes z) = absurd (omega (arith, n, ap (λ x. count k x) ((c.trees o low high).dead z)))
      go (no alive) = in_tree l o low high (c.tree o) (c.trees o low high) alive k n

  -- a record that is not in the free list is one
  pub cap-held : (k : ℕ) → 1 ≤ k → k ≤ 512 → times k c.free ≡ 0 → (o : ℕ) × CapShaped l o k
  cap-held k low high z =
      let t = sum-some 64 (λ o. count k (c.tree o)) (omega (arith, c.once k low high)) in
      (t.0, of_tree k t.0 t.1 t.2 t.3)

  cap-of : (k : ℕ) → owner_of l k ≢ 0 → CapShaped l (owner_of l k) k
  cap-of k alive = let t = cap-held k low high not_free in rw t.1.owner-is t.1
    where
      low : 1 ≤ k
      low = field-low 512 Layout.OWNER l k alive

      high : k ≤ 512
      high = field-high 512 Layout.OWNER l k alive

      not_free : times k c.free ≡ 0
      not_free = go (ℕ_discrete (times k c.free) 0)
        where
          go : Dec (times k c.free ≡ 0) → times k c.free ≡ 0
          go (yes z) = z
          go (no nz) = absurd (alive (c.free-owner k (omega arith)))

  object_of : Blocks l → (o : ℕ) → master_of l o ≢ 0 → ObjectShaped l o
  unfolding Sound
  object_of b o alive =
      let m = master l o low high (c.tree o) (c.trees o low high) alive in
      record {
        low = low;
        high = high;
        master-owner = m.owner-is;
        master-parent = (whole l o low high (c.tree o) (c.trees o low high) alive).1.parent_is;
        chain = (b.chain o, ((b.chains o low high).live alive).0, ((b.chains o low high).live alive).1);
      }
    where
      low : 1 ≤ o
      low = field-low 64 Layout.MASTER l o alive

      high : o ≤ 64
      high = field-high 64 Layout.MASTER l o alive

pub shaped : (l : List ℕ) → Shape l → Shaped l
shaped l s = record { cap = cap-of l s.caps; object = object_of l s.caps s.blocks }
