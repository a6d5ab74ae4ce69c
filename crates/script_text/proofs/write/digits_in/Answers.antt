-- `digits_in` takes one digit off after another; the shortest numbers by their size.
use mathlib.Core.Path.{sym}
use native.Mathlib.Omega.{arith}
use Rattle.script_text.proofs.Spelling.{one-digit, two_digits, three-digits}
use Rattle.script_text.proofs.Spelling.{counting-none, counting_more, counting-all, counting-few}
use Rattle.script_text.proofs.write.digits_in.Goals as goal

pub returns-then-n-lt10 : goal.returns-then-n-lt10
returns-then-n-lt10 c = sym (one-digit _ c.if-n-lt10.true)

pub returns-then-n-lt100 : goal.returns-then-n-lt100
returns-then-n-lt100 c = sym (two_digits _ c.if-n-lt10.false c.if-n-lt100.true)

pub returns-then-n-lt1000 : goal.returns-then-n-lt1000
returns-then-n-lt1000 c = sym (three-digits _ c.if-n-lt100.false c.if-n-lt1000.true)

pub loop-rest-init : goal.loop-rest-init
loop-rest-init c = counting-none _

pub overflow_add-k : goal.overflow_add-k
overflow_add-k c = omega (arith, counting-few _ _ _ c.loop-rest.invariant (omega arith))

pub loop-rest-smaller : goal.loop-rest-smaller
loop-rest-smaller c = omega arith

pub loop-rest-preserved : goal.loop-rest-preserved
loop-rest-preserved c = counting_more _ _ _ c.loop-rest.invariant c.loop-rest-test.true

pub returns : goal.returns
returns c = counting-all _ _ _ c.loop-rest.invariant c.loop-rest-test.false
