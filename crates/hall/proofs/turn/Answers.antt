-- `turn` feeds what was read, or ends the run.
use mathlib.Core.Path.{refl}
use native.Mathlib.Omega.{arith}
use lib.ListN.{length-take}
use Rattle.hall.proofs.Going.{turned}
use Rattle.hall.proofs.turn.Goals as goal

pub feed_all-requires : goal.feed_all-requires
feed_all-requires c =
    record {
      stands = c.requires.stands;
      few = omega (arith, length-take c.unwrap_or-n.result c.read.new.buf, c.read.auto.buf, c.requires.few);
    }

pub returns : goal.returns
returns c =
    turned _ _ _ _ _ _ _ _ _ _ _ c.unwrap_or-n.result c.feed_all.ensures refl
    (omega (arith, length-take c.unwrap_or-n.result c.read.new.buf, c.read.auto.buf))
