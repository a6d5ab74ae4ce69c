-- What is still to be stored, after what is stored, is the whole chain.
use Rattle.std.proofs.Common.{◌≡◌}
use Rattle.kernel_fresh.specs.Stores.{chain}
use Rattle.kernel_fresh.proofs.chain.free_chain.Given as goal

abbrev pub invariant-loop-i : goal.invariant-loop-i
invariant-loop-i l = chain l.off l.last l.initial.links ≡ chain l.off l.i l.links
