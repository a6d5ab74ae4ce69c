-- All capabilities: each is in the free list or in one object's tree.
use mathlib.Core.Path.{◌≡◌, refl, ap}
use mathlib.Core.Logic.{◌≢◌}
use mathlib.Core.Bool.{Bool}
use mathlib.Core.List.{List}
use Prim.Native.Nat.{ℕ, ◌≤◌}
use native.Mathlib.Omega.{arith}
use native.Mathlib.Decide.{ℕ_discrete}
use lib.ListN.{get_or}
use Rattle.layout.specs.Layout as Layout
use Rattle.layout.specs.Rows.{master_of, owner_of, first_child_of, next_cap_of}
use Rattle.layout.specs.Shape.{Forest, nil, node, count, Sound, SoundIn, TreeOf, Caps}
use Rattle.layout.proofs.Counts.{one-other}
use Rattle.layout.proofs.Shaped.{CapShaped, cap-held}
use Rattle.layout.specs.Decides.{Decides}
use Rattle.check_chains.specs.Marking.{Part}
use Rattle.check_chains.specs.Parts.{chain_with, JustFree}
use Rattle.layout.proofs.Deciding.{as-well}
use Rattle.check_chains.proofs.Covers.{Inside, each-inside, Covers}
use Rattle.check_chains.proofs.ObjectChains.{in-chain}
use Rattle.check_trees.specs.Parts.{trees_of_all}

module _ (l : List ℕ) where
  children-inside : (o parent prev head : ℕ) (F : Forest) → SoundIn l o parent prev head F
      → (k : ℕ) → (1 ≤ k → k ≤ 512 → ⊥) → count k F ≡ 0
  unfolding Sound count
  children-inside o parent prev head nil s k out = refl
  children-inside o parent prev head (node j K R) s k out = omega (
    arith,
    one-other k j (λ e. out (omega (arith, s.1.low)) (omega (arith, s.1.high))),
    children-inside o j 0 (first_child_of l j) K s.2 k out,
    children-inside o parent j (next_cap_of l j) R s.3 k out,
  )

  pub trees-inside : Inside 512 (trees_of_all l 64)
  unfolding count
  trees-inside = each-inside (TreeOf l) (λ F k. count k F) 64 512
      (λ o F h k out. go o F h k out (ℕ_discrete (master_of l o) 0))
    where
      go : (o : ℕ) (F : Forest) → TreeOf l o F → (k : ℕ) → (1 ≤ k → k ≤ 512 → ⊥) → Dec (master_of l o ≡ 0)
          → count k F ≡ 0
      go o F h k out (yes z) = ap (λ x. count k x) (h.dead z)
      go o F h k out (no ne) = children-inside o 0 0 (master_of l o) F (h.live ne).2 k out

  -- the chain of the free records, those with no object
  abbrev pub free_caps : Part
  free_caps = chain_with 512 (next_cap_of l) (JustFree 512 (owner_of l)) (get_or l Layout.FREE_CAPS 0)

  caps-of : Covers 512 free_caps (trees_of_all l 64) → Caps l
  caps-of x = record {
    tree = x.1;
    free = x.0;
    trees = x.3;
    free-chain = x.2.0;
    free-owner = λ k m. in-chain 512 (next_cap_of l) (get_or l Layout.FREE_CAPS 0) x.0 k x.2.0 m
        (λ low high. (x.2.1 k low high).free m);
    once = λ k low high. omega (arith, x.4 k low high);
  }

  covers_of : Caps l → Covers 512 free_caps (trees_of_all l 64)
  covers_of c = (
    c.free,
    c.tree,
    (c.free-chain, λ k low high. record { free = c.free-owner k; live = λ z. owned k (cap-held l c k low high z) }),
    c.trees,
    λ k low high. omega (arith, c.once k low high),
  )
    where
      owned : (k : ℕ) → (o : ℕ) × CapShaped l o k → owner_of l k ≢ 0
      owned k t z = omega (arith, t.1.owner-is, t.1.owner-low)

  pub caps-decided : {r : Bool} → Decides (Covers 512 free_caps (trees_of_all l 64)) r → Decides (Caps l) r
  caps-decided d = as-well d caps-of covers_of
