-- `hold` clears the blocks and takes them.
use Rattle.call_make.proofs.Placing.{hold-enough, holds-is}
use Rattle.call_make.proofs.make.hold.Goals as goal

pub clear-last-requires : goal.clear-last-requires
clear-last-requires c =
    record {
      fact_1 = c.requires.bytes;
      fact_2 = hold-enough c.requires _ c.blocks_of-n.ensures;
    }

pub take-requires : goal.take-requires
take-requires c =
    record {
      fact_1 = hold-enough c.requires _ c.blocks_of-n.ensures;
      fact_2 = c.requires.slot.high;
      fact_3 = c.clear-last.ensures.fact_2;
    }

pub returns : goal.returns
returns c =
    holds-is _ _ _ c.args.size _ c.blocks_of-n.ensures _ _
    c.clear-last.ensures.fact_1 c.take.ensures
