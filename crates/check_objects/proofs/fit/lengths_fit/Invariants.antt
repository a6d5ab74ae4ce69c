-- `lengths_fit` has seen every message that it passed to be short enough.
use Rattle.std.proofs.Common.{ℕ, ◌+◌, ◌*◌, ◌≤◌, ◌<◌}
use Rattle.layout.specs.Rows.{count_of, length_of}
use Rattle.check_objects.proofs.fit.lengths_fit.Given as goal

abbrev pub invariant-loop-m : goal.invariant-loop-m
invariant-loop-m l = (k : ℕ) → l.m ≤ k → k < count_of l.bytes l.o → length_of l.bytes (l.o * 4 + k) ≤ 16
