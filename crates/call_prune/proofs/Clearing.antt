-- The scratch that a call leaves, by the code of its answer.
use Prim.Native.Nat.{ℕ}
use mathlib.Core.Path.{◌≡◌, sym}
use mathlib.Core.Logic.{◌≢◌}
use mathlib.Core.List.{List}
use lib.Dec.{eqb}
use lib.ListN.{length, replicate}
use borrow.Author.Tests.{eq-eqb, ne_eqb}
use Rattle.rules.proofs.Tests.{pick_yes, pick-not}
use Rattle.call_prune.specs.Scratch.{scratch_left}

pub scratch-done : (n : ℕ) (s : List ℕ) → n ≡ 0 → replicate (length s) 0 ≡ scratch_left n s
unfolding scratch_left
scratch-done n s z = sym (pick_yes (eqb n 0) (replicate (length s) 0) s (eq-eqb n 0 z))

pub scratch-kept : (n : ℕ) (s : List ℕ) → n ≢ 0 → s ≡ scratch_left n s
unfolding scratch_left
scratch-kept n s nz = sym (pick-not (eqb n 0) (replicate (length s) 0) s (ne_eqb n 0 nz))
