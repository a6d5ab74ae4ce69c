-- `check_fields` asks each part of Fields.
use Rattle.layout.proofs.Deciding.{no-it, as-well, refuted, granted}
use borrow.Author.Rules.{rules}
use Rattle.kernel_check.proofs.fields.check_fields.Goals as goal

pub returns-then-not-objects_fit : goal.returns-then-not-objects_fit
returns-then-not-objects_fit c =
    no-it (λ h.
    refuted c.objects_fit.ensures c.if-not-objects_fit.true (record { fit = h.objects; names = h.names }))

pub returns-in_default : goal.returns-in_default
returns-in_default c = no-it (λ h. c.in_default.ensures (record { fit = h.caps; passwords = h.passwords }))

pub total_fits-requires : goal.total_fits-requires
total_fits-requires c =
    record {
      sizes = search rules;
      given = c.in-Some.ensures.1 _;
    }

pub returns : goal.returns
returns c =
    let objects = granted c.objects_fit.ensures c.if-not-objects_fit.false in
    let caps = c.in-Some.ensures.0 in
    as-well c.total_fits.ensures
    (λ t. record {
      objects = objects.fit;
      names = objects.names;
      caps = caps.fit;
      passwords = caps.passwords;
      total = t;
    })
    (λ h. h.total)
