-- `has_p1` reads the owner and p1.
use mathlib.Core.Path.{◌∙◌}
use borrow.Author.Tests.{ne_eqb}
use Rattle.call_steps.proofs.Sharing.{taken-else, taken_here}
use native.Mathlib.Omega.{arith}
use Rattle.call_steps.proofs.owned.has_p1.Goals as goal

pub returns-then-from-o : goal.returns-then-from-o
returns-then-from-o c b =
    let a = c.args in
    taken_here b a.links.now a.words.now a.o a.p1 a.i (omega arith)
    c.from.result c.from.ensures (omega arith) c.if-from-o.true

pub returns-else-from-o : goal.returns-else-from-o
returns-else-from-o c b =
    let a = c.args in
    ne_eqb _ _ c.if-from-o.false ∙ taken-else b a.links.now a.words.now a.o a.p1 a.i (omega arith)
    c.from.result c.from.ensures c.if-from-o.false
