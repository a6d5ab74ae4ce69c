-- A write's run, as the code comes to it.
use Prim.Native.Nat.{ℕ}
use mathlib.Core.Path.{◌≡◌, ap, ◌∙◌}
use mathlib.Core.Bool.{true, false}
use mathlib.Core.List.{List}
use native.Mathlib.Omega.{arith}
use lib.ListN.{length}
use Rattle.rules.specs.Calls.{lies_in}
use Rattle.layout.specs.Rows.{first_block_of, owner_of}
use Rattle.call_steps.specs.Run.{over, window_in}
use Rattle.call_steps.proofs.Meeting.{stopped, goes_on}
use Rattle.call_transfer.specs.Runs.{copied_in, range, write_run, WriteAsks}
use Rattle.call_transfer.proofs.Stops.{inside-no, inside-yes}

module _ {b l w text : List ℕ} {k start end : ℕ} (a : WriteAsks b l w text k start end) where
  pub writes-met : lies_in (range start end) (window_in w k) ≡ false
      → over 7 b l w ≡ write_run b l w k start end text
  unfolding write_run
  writes-met e = stopped b l w _ 7 (inside-no w k start end e) (omega arith)

  pub writes-done : (head : ℕ) → head ≡ first_block_of l (owner_of l k)
      → lies_in (range start end) (window_in w k) ≡ true
      → (after : List ℕ) → after ≡ copied_in l head start text (length text) b
      → over 0 after l w ≡ write_run b l w k start end text
  unfolding write_run
  writes-done head h e after c =
      ap (λ x. over 0 x l w) (c ∙ ap (λ x. copied_in l x start text (length text) b) h)
      ∙ goes_on b l w _ (inside-yes w k start end e)
