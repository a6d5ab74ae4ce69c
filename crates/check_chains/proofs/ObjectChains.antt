-- All objects: the free ones have no master, and the others have one.
use mathlib.Core.Bool.{Bool}
use mathlib.Core.List.{List}
use Prim.Native.Nat.{ℕ, ◌≤◌}
use native.Mathlib.Omega.{arith}
use lib.ListN.{get_or}
use Rattle.layout.specs.Layout as Layout
use Rattle.layout.specs.Rows.{master_of, next_object_of}
use Rattle.layout.specs.Shape.{Chain, times, Objects}
use Rattle.layout.proofs.Field.{within}
use Rattle.layout.specs.Decides.{Decides}
use Rattle.check_chains.specs.Marking.{Part}
use Rattle.check_chains.specs.Parts.{chain_with, Any, JustFree}
use Rattle.layout.proofs.Deciding.{as-well}
use Rattle.check_chains.proofs.Covers.{chain-inside, Covers}

-- a record of a chain has a number from 1 to n
pub in-chain : (n : ℕ) (next : ℕ → ℕ) (head : ℕ) (xs : List ℕ) (k : ℕ) {A : Type 0} → Chain n next head xs
    → 1 ≤ times k xs → (1 ≤ k → k ≤ n → A) → A
in-chain n next head xs k {A} c m f =
    within n k A f (λ out. absurd (omega (arith, chain-inside n next head xs c k out)))

module _ (l : List ℕ) where
  abbrev pub free_objects : Part
  free_objects = chain_with 64 (next_object_of l) (JustFree 64 (master_of l)) (get_or l Layout.FREE_OBJECTS 0)

  abbrev pub live_objects : Part
  live_objects = chain_with 64 (next_object_of l) Any (get_or l Layout.OBJECTS 0)

  objects-of : Covers 64 free_objects live_objects → Objects l
  objects-of x = record {
    live = x.1;
    free = x.0;
    live-chain = x.3.0;
    free-chain = x.2.0;
    once = λ o a b. omega (arith, x.4 o a b);
    alive = λ o m. in-chain 64 (next_object_of l) (get_or l Layout.OBJECTS 0) x.1 o x.3.0 m
        (λ a b. (x.2.1 o a b).live (omega (arith, x.4 o a b)));
    dead = λ o m. in-chain 64 (next_object_of l) (get_or l Layout.FREE_OBJECTS 0) x.0 o x.2.0 m
        (λ a b. (x.2.1 o a b).free m);
  }

  covers_of : Objects l → Covers 64 free_objects live_objects
  covers_of b = (
    b.free,
    b.live,
    (
      b.free-chain,
      λ k low high. record {
        free = b.dead k;
        live = λ z. b.alive k (omega (arith, b.once k low high));
      },
    ),
    (b.live-chain, tt),
    λ o low high. omega (arith, b.once o low high),
  )

  pub objects-decided : {r : Bool} → Decides (Covers 64 free_objects live_objects) r → Decides (Objects l) r
  objects-decided d = as-well d objects-of covers_of
