-- `enter` searches the chain at a place, and puts slot i at its head.
use Rattle.std.proofs.Common.{refl}
use Rattle.check_rows.proofs.Chaining.{from-any}
use Rattle.check_rows.proofs.table.enter.Goals as goal

pub none_from-new-requires : goal.none_from-new-requires
none_from-new-requires g c = record {
  callable = c.requires.callable;
  chain = rw c.from.ensures (from-any c.requires.chain);
}

pub returns : goal.returns
returns g c = record {
  entered = refl;
  linked = refl;
  answer = rw c.from.ensures at c.none_from-new.ensures;
}
