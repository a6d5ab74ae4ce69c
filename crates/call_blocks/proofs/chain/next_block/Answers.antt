-- `next_block` reads the row of links between blocks, whose slot 0 is 0.
use mathlib.Core.Path.{sym, ap, ◌∙◌}
use native.Mathlib.Omega.{arith}
use Rattle.layout.specs.Layout as Layout
use Rattle.layout.specs.Rows.{next_block_of}
use Rattle.layout.proofs.Field.{field_in}
use Rattle.call_blocks.proofs.Walking.{next-zero}
use Rattle.call_blocks.proofs.chain.next_block.Goals as goal

pub returns-then-k-eq0 : goal.returns-then-k-eq0
returns-then-k-eq0 c =
    let a = c.args in
    sym (ap (next_block_of a.links.now) c.if-k-eq0.true ∙ next-zero a.links.now)

pub returns : goal.returns
returns c =
    c.from.ensures
    ∙ sym (field_in 512 Layout.NEXT_BLOCK c.args.links.now c.args.k
    (omega (arith, c.if-k-eq0.false)) c.requires.1)
