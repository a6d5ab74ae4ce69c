-- `column` keeps the numbers of calls.
use mathlib.Core.Path.{sym}
use native.Mathlib.Omega.{arith}
use Rattle.rules.specs.Rights.{op}
use Rattle.script_lines.proofs.Rows.{past}
use Rattle.script_lines.proofs.table.column.Goals as goal

pub returns-then-number-gt16 : goal.returns-then-number-gt16
unfolding op
returns-then-number-gt16 c = (omega arith, sym (past c.args.number c.if-number-gt16.true))
