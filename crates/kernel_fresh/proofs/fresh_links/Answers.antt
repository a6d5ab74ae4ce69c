-- `fresh_links` meets its contract.
use Rattle.kernel_fresh.specs.Stores.{zeros}
use Rattle.kernel_fresh.specs.Slices.{fresh_links}
use Rattle.kernel_fresh.proofs.fresh_links.Goals as goal

pub returns : goal.returns
unfolding fresh_links zeros
returns c = rw (c.first_links.ensures, c.free_links.ensures, c.fill.ensures.after (λ y same. same), c.requires)
