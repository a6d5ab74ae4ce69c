-- `fresh_bytes` meets its contract.
use Rattle.kernel_fresh.specs.Stores.{zeros}
use Rattle.kernel_fresh.specs.Slices.{fresh_bytes}
use Rattle.kernel_fresh.proofs.fresh_bytes.Goals as goal

pub returns : goal.returns
unfolding fresh_bytes zeros
returns c = rw (c.fill.ensures.after (λ y same. same), c.requires)
