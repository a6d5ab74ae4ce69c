-- `find_object` counts down as the rules' `find` does, from the slot where `from_serial` stopped.
use mathlib.Core.Path.{sym, ap, ◌∙◌}
use native.Mathlib.Omega.{arith}
use Rattle.call_steps.specs.Request.{name_of}
use Rattle.call_steps.specs.Tests.{slot_found}
use Rattle.call_steps.proofs.Finding.{same_next, found-at, found-none, before}
use Rattle.call_steps.proofs.Callers.{named-found, named-from}
use Rattle.call_steps.proofs.objects.find_object.Goals as goal

pub from_serial-last-requires : goal.from_serial-last-requires
from_serial-last-requires c = c.requires.links

pub loop-o-init : goal.loop-o-init
loop-o-init c = (
  omega arith,
  omega (arith, c.from_serial-last.ensures.high),
  λ w. before _ (named-from _ _ w (name_of _) _ c.from_serial-last.ensures),
)

pub is_named-requires : goal.is_named-requires
is_named-requires c = omega arith

pub returns-then-is_named : goal.returns-then-is_named
returns-then-is_named c w =
    let l = c.loop-o in
    let test = c.is_named.ensures w in
    found-at _ (l.invariant.2 w) (omega arith) (sym test ∙ c.if-is_named.true) ∙ ap slot_found (sym (named-found _ _))

pub loop-o-preserved : goal.loop-o-preserved
loop-o-preserved c =
    let l = c.loop-o in
    let test = c.is_named.ensures in
    (omega arith, omega arith, λ w. same_next _ (l.invariant.2 w) (omega arith) (sym (test w) ∙ c.if-is_named.false))

pub returns : goal.returns
returns c w = found-none _ (c.loop-o.invariant.2 w) (omega arith) ∙ ap slot_found (sym (named-found _ _))
