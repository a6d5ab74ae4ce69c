-- The first free object is the first of the living ones: the shape of the chains of objects.
use Prim.Native.Nat.{ℕ, ◌≤◌}
use mathlib.Core.Path.{◌≡◌, refl, sym, ap, ◌∙◌}
use mathlib.Core.Logic.{◌≢◌}
use mathlib.Core.List.{List, ◌∷◌}
use native.Mathlib.Omega.{arith}
use Rattle.rules.specs.Slots.{at}
use Rattle.rules.proofs.Tests.{by-eq}
use Rattle.rules.proofs.Slots.{at_here, at-else}
use Rattle.layout.specs.Shape.{Chain, times, ObjectChains}
use Rattle.layout.proofs.Counts.{one_same, one-other}
use Rattle.layout.proofs.Linking.{chain_head, chain-at}

module _ (master next : ℕ → ℕ) (head o : ℕ) (s : ObjectChains master next head o) (some : o ≢ 0) (i : ℕ) (lives : i ≢ 0)
  where
    first : (rest : List ℕ) × (s.free ≡ o ∷ rest) × (1 ≤ o) × (o ≤ 64) × Chain 64 next (next o) rest
    first = chain_head 64 next o s.free s.free-chain some

    abbrev rest : List ℕ
    rest = first.0

    times-free : (q : ℕ) → times q s.free ≡ times q (o ∷ rest)
    times-free q = ap (times q) first.1

    -- o is once in the chain of free objects, and nowhere else
    not_live : times o s.live ≡ 0
    unfolding times
    not_live = omega (arith, s.once o first.2 first.3, times-free o, one_same o)

    not-rest : times o rest ≡ 0
    unfolding times
    not-rest = omega (arith, s.once o first.2 first.3, times-free o, one_same o)

    alive : (q : ℕ) → 1 ≤ times q (o ∷ s.live) → at master o i q ≢ 0
    unfolding times
    alive q h = by-eq q o
        (λ e z. lives (sym (at_here master o i) ∙ ap (at master o i) (sym e) ∙ z))
        (λ ne z. s.alive q (omega (arith, one-other q o ne)) (sym (at-else master o i q ne) ∙ z))

    dead : (q : ℕ) → 1 ≤ times q rest → at master o i q ≡ 0
    unfolding times
    dead q h = by-eq q o
        (λ e. absurd (omega (arith, not-rest, ap (λ x. times x rest) e)))
        (λ ne. at-else master o i q ne ∙ s.dead q (omega (arith, times-free q)))

    pub object-moved : ObjectChains (at master o i) (at next o head) o (next o)
    unfolding Chain times
    object-moved = record {
      live = o ∷ s.live;
      free = rest;
      live-chain = (
        refl,
        first.2,
        first.3,
        rw (at_here next o head) (chain-at 64 next head s.live o head s.live-chain not_live),
      );
      free-chain = chain-at 64 next (next o) rest o head first.4 not-rest;
      once = λ q p r. omega (arith, s.once q p r, times-free q);
      alive = alive;
      dead = dead;
    }
