-- `push_bytes` writes byte after byte.
use mathlib.Core.Path.{◌∙◌}
use native.Mathlib.Omega.{arith}
use lib.ListN.{length-take}
use lib.Seq.{get_or-take}
use Rattle.script_answers.proofs.Gathering.{pushing-none, pushing-more, pushing-all}
use Rattle.script_answers.proofs.answer.push_bytes.Goals as goal

pub loop-byte-init : goal.loop-byte-init
loop-byte-init c = pushing-none _ _ _ (omega arith)

pub push-p-requires : goal.push-p-requires
push-p-requires c =
    omega (arith, c.loop-byte.invariant.pushed.room, c.loop-byte.invariant.size, c.requires.1, length-take c.args.count c.args.bytes.now, c.loop-byte-test.true)

pub loop-byte-preserved : goal.loop-byte-preserved
loop-byte-preserved c =
    let few = length-take c.args.count c.args.bytes.now in
    pushing-more _ _ _ _ _ _ _ _ _ c.loop-byte.invariant (omega (arith, few, c.loop-byte-test.true, c.requires.0))
    (c.from.ensures ∙ get_or-take c.args.count c.args.bytes.now c.loop-byte.byte-index 0 (omega (arith, few, c.loop-byte-test.true)))
    c.push-p.ensures c.push-p.auto.out

pub returns : goal.returns
returns c =
    pushing-all _ _ _ _ _ _ _ c.loop-byte.invariant
    (omega (arith, length-take c.args.count c.args.bytes.now, c.loop-byte-test.false, c.loop-byte.auto.byte-index-end, c.requires.0))
