-- `ends_in_bytes` tests the length first.
use mathlib.Core.Path.{◌∙◌}
use lib.ListN.{length}
use borrow.Author.Tests.{lt-leb}
use Rattle.script_lines.proofs.Bytes.{ends-in, ends-early}
use Rattle.script_lines.proofs.fits.ends_in_bytes.Goals as goal

pub returns-then-from-numbers : goal.returns-then-from-numbers
returns-then-from-numbers c =
    c.are_bytes.ensures ∙ ends-in c.args.from (length c.args.numbers.now) _ c.if-from-numbers.true

pub returns-else-from-numbers : goal.returns-else-from-numbers
returns-else-from-numbers c =
    lt-leb c.args.from (length c.args.numbers.now) c.if-from-numbers.false ∙ ends-early c.args.from (length c.args.numbers.now) _ c.if-from-numbers.false
