-- `fresh_words` meets its contract.
use Rattle.kernel_fresh.specs.Stores.{zeros}
use Rattle.kernel_fresh.specs.Slices.{fresh_words}
use Rattle.kernel_fresh.proofs.fresh_words.Goals as goal

pub returns : goal.returns
unfolding fresh_words zeros
returns c = rw (c.fill.ensures.after (λ y same. same), c.requires)
