-- `digits_on` scans byte after byte; what its digits say is not 0, and fits each time.
use mathlib.Core.Path.{sym, ◌∙◌}
use native.Mathlib.Omega.{arith}
use lib.ListN.{get_or}
use Rattle.script_text.proofs.Scanning.{Extends, extending}
use Rattle.script_text.proofs.Steps.{on_none, on-more, on-space, on-stop, on-end}
use Rattle.script_text.proofs.read.digits_on.Goals as goal
use Rattle.script_text.proofs.read.digits_on.Goals.{Then-extends}

-- the digit that was tested
extended : (c : Then-extends) → Extends c.loop-i.value
    (get_or c.args.line.now c.loop-i.i 0)
extended c = extending _ _ (sym c.extends.ensures ∙ c.if-extends.true)

pub loop-i-init : goal.loop-i-init
loop-i-init c = (on_none _ _ _ c.requires.place c.requires.first.1, c.requires.first.0)

pub extends-requires : goal.extends-requires
extends-requires c = (c.loop-i.invariant.1, c.loop-i.invariant.0.fits)

pub overflow_mul-value : goal.overflow_mul-value
overflow_mul-value c = omega (arith, c.loop-i.invariant.0.fits)

pub overflow_sub-value : goal.overflow_sub-value
overflow_sub-value c = (extended (goal.at.overflow_sub-value c).Then-extends).digit.low

pub overflow_cast-value : goal.overflow_cast-value
overflow_cast-value c = omega (arith, (extended (goal.at.overflow_cast-value c).Then-extends).digit.high)

pub overflow_add-value : goal.overflow_add-value
overflow_add-value c = omega (arith, (extended (goal.at.overflow_add-value c).Then-extends).fits)

pub loop-i-preserved : goal.loop-i-preserved
loop-i-preserved c =
    let e = sym c.extends.ensures ∙ c.if-extends.true in
    (on-more _ _ _ _ _ c.loop-i.invariant.0 c.loop-i-test.true e, λ z. omega (arith, z, c.loop-i.invariant.1))

pub overflow_cast-result : goal.overflow_cast-result
overflow_cast-result c = omega (arith, c.loop-i.invariant.0.fits)

pub returns-then-b-eq32 : goal.returns-then-b-eq32
returns-then-b-eq32 c = on-space _ _ _ _ _ c.loop-i.invariant.0 c.loop-i-test.true c.if-b-eq32.true

pub returns-else-b-eq32 : goal.returns-else-b-eq32
returns-else-b-eq32 c =
    on-stop _ _ _ _ _ c.loop-i.invariant.0 c.loop-i-test.true c.if-b-eq32.false
    (sym c.extends.ensures ∙ c.if-extends.false)

pub overflow_cast-result-2 : goal.overflow_cast-result-2
overflow_cast-result-2 c = omega (arith, c.loop-i.invariant.0.fits)

pub returns : goal.returns
returns c = on-end _ _ _ _ _ c.loop-i.invariant.0 c.loop-i-test.false
