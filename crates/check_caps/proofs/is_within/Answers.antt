-- `is_within` tests the rights, both ends of the window and the last day.
use native.Mathlib.Omega.{arith}
use mathlib.Core.Path.{◌≡◌, sym, ap₂, ◌∙◌}
use lib.Bits.{bit_and}
use Rattle.rules.specs.Rights.{both}
use Rattle.layout.specs.Rows.{rights_of}
use Rattle.layout.proofs.Deciding.{no-it, as-well, at_most}
use Rattle.check_caps.proofs.is_within.Goals as goal
use Rattle.check_caps.proofs.is_within.Goals.{After-both-both}

-- the rights in both sets
shared : (c : After-both-both) → c.both-both.result.0 ≡ bit_and (rights_of c.args.links.now c.args.i) (rights_of c.args.links.now c.args.p)
unfolding both
shared c = c.both-both.ensures ∙ ap₂ bit_and c.field.ensures c.field-2.ensures

pub returns-then-both-rights : goal.returns-then-both-rights
returns-then-both-rights c =
    no-it (λ h. c.if-both-rights.true (shared (goal.at.returns-then-both-rights c).After-both-both ∙ h.0 ∙ sym c.field.ensures))

pub returns-then-start-field : goal.returns-then-start-field
returns-then-start-field c = no-it (λ h. omega (arith, h.1))

pub returns-then-end-field : goal.returns-then-end-field
returns-then-end-field c = no-it (λ h. omega (arith, h.2))

pub returns : goal.returns
returns c =
    as-well (at_most c.field-5.result c.field-6.result)
    (λ t. (
      sym (shared (goal.at.returns c).After-both-both) ∙ c.if-both-rights.false ∙ c.field.ensures,
      omega (arith, c.if-start-field.false, c.field-3.ensures, c.field-start.ensures),
      omega arith,
      omega arith,
    ))
    (λ h. omega (arith, h.3))
