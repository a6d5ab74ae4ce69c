-- `cap_fits` tests each part of CapFits where the slot holds a capability.
use native.Mathlib.Omega.{arith}
use mathlib.Core.Path.{sym, ap, ◌∙◌}
use Rattle.layout.specs.Rows.{size_of}
use Rattle.layout.proofs.Deciding.{yes-it, no-it, as-well}
use Rattle.check_caps.proofs.cap_fits.Goals as goal

pub returns-then-owner-eq0 : goal.returns-then-owner-eq0
returns-then-owner-eq0 c = yes-it (λ live. absurd (live (omega arith)))

pub returns-then-field-gt-ALL_RIGHTS : goal.returns-then-field-gt-ALL_RIGHTS
returns-then-field-gt-ALL_RIGHTS c = no-it (λ h. omega (arith, (h (λ z. omega arith)).rights))

pub returns-then-start-end : goal.returns-then-start-end
returns-then-start-end c = no-it (λ h. omega (arith, (h (λ z. omega arith)).ordered))

pub returns-then-parent-eq0 : goal.returns-then-parent-eq0
returns-then-parent-eq0 c =
    let whose = ap (size_of _) (c.from-owner.ensures ∙ c.field.ensures) in
    as-well c.is_whole.ensures
    (λ q live. record {
      rights = omega arith;
      ordered = omega arith;
      whole = λ z. (sym c.field-start.ensures ∙ q.0, sym c.field-end.ensures ∙ q.1 ∙ whose, q.2);
      within = λ nz. absurd (nz (omega arith));
    })
    (λ h. let q = (h (λ z. omega arith)).whole (omega arith) in
    (c.field-start.ensures ∙ q.0, c.field-end.ensures ∙ q.1 ∙ sym whose, q.2))

pub returns : goal.returns
returns c =
    let e = c.from-parent.ensures ∙ c.field-3.ensures in
    as-well c.is_within.ensures
    (λ q live. record {
      rights = omega arith;
      ordered = omega arith;
      whole = λ z. absurd (omega arith);
      within = λ nz. rw e at q;
    })
    (λ h. rw e ((h (λ z. omega arith)).within (λ z. omega arith)))
