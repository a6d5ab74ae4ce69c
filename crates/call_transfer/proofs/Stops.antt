-- Refusal 7 as the code comes to it, and what the code asks of a copy where it is not met.
use Prim.Native.Nat.{ℕ, ◌+◌, ◌≤◌}
use mathlib.Core.Path.{◌≡◌}
use mathlib.Core.Bool.{true, false}
use mathlib.Core.List.{List}
use native.Mathlib.Omega.{arith}
use lib.Dec.{leb}
use borrow.Author.Tests.{leb-true}
use Rattle.rules.specs.Store.{blocks}
use Rattle.rules.specs.Refusals.{◌when◌, first}
use Rattle.rules.specs.Calls.{lies_in}
use Rattle.rules.proofs.Tests.{all2}
use Rattle.layout.specs.Rows.{first_block_of, next_block_of, owner_of, start_of, end_of}
use Rattle.layout.specs.WellFormed.{Sized}
use Rattle.call_steps.specs.Run.{window_in}
use Rattle.call_transfer.specs.Runs.{range, inside, BlocksHold, CopyAsks}
use Rattle.call_blocks.proofs.Hops.{hop-block}

module _ (w : List ℕ) (k start end : ℕ) where
  pub inside-no : lies_in (range start end) (window_in w k) ≡ false → inside w k start end ≡ 7
  unfolding inside first ◌when◌
  inside-no e = rw e

  pub inside-yes : lies_in (range start end) (window_in w k) ≡ true → inside w k start end ≡ 0
  unfolding inside first ◌when◌
  inside-yes e = rw e

  pub ends-in : lies_in (range start end) (window_in w k) ≡ true → end ≤ end_of w k
  unfolding lies_in
  ends-in e = leb-true end (end_of w k) (all2 (leb (start_of w k) start) (leb end (end_of w k)) e).1

pub copy-asks : {b l w : List ℕ} {k : ℕ} (head start end n : ℕ) → Sized b l w → BlocksHold l w k
    → head ≡ first_block_of l (owner_of l k)
    → lies_in (range start end) (window_in w k) ≡ true → start + n ≡ end
    → CopyAsks b l head start n
unfolding blocks
copy-asks {b} {l} {w} {k} head start end n z t e h q =
    let in_window : end ≤ end_of w k = ends-in w k start end h in
    record {
      bytes = z.bytes;
      links = z.links;
      small = omega (arith, t.fits, t.size);
      blocked = λ i p. rw e (hop-block (next_block_of l) (first_block_of l (owner_of l k)) t.chain.0 t.chain.1 i
          (omega (arith, t.chain.2, t.fits))).1;
    }
