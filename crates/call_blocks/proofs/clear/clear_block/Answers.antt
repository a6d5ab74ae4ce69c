-- `clear_block` fills a block's part with zeros.
use native.Mathlib.Omega.{arith}
use Rattle.call_blocks.proofs.Walking.{zeroed-fill}
use Rattle.call_blocks.proofs.clear.clear_block.Goals as goal

pub returns : goal.returns
returns c = zeroed-fill _ _ _ _ 64 (omega arith) (omega arith) (c.fill.ensures.after (λ y e. e))
