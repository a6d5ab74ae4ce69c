-- `all_cash` has added up the cash of the slots that it passed.
use Rattle.layout.proofs.Adding.{Added}
use Rattle.layout.specs.View.{view}
use Rattle.check_money.proofs.all_cash.Given as goal

abbrev pub invariant-loop-o : goal.invariant-loop-o
invariant-loop-o l = Added (view l.bytes l.links l.words).cash 4294967295 64 l.o l.total
