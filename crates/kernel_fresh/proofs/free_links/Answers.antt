-- `free_links` meets its contract.
use Rattle.kernel_fresh.specs.Slices.{free_links}
use Rattle.kernel_fresh.proofs.free_links.Goals as goal

pub returns : goal.returns
unfolding free_links
returns c = rw (c.free_chain-3.ensures, c.free_chain-2.ensures, c.free_chain.ensures)
