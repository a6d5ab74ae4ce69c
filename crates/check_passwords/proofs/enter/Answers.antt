-- `enter` searches the chain at the place of slot i, and puts slot i at its head.
use native.Mathlib.Omega.{arith}
use mathlib.Core.Path.{sym, ap₂, ◌∙◌}
use borrow.Author.Rules.{rules}
use Rattle.check_rows.proofs.Chaining.{slot-entered, chain-starts, none_above, searched}
use Rattle.check_passwords.specs.Passwords.{SamePassword, bucket}
use Rattle.check_passwords.proofs.enter.Goals as goal

pub enter-requires : goal.enter-requires
enter-requires c =
    let t = c.requires.table in record {
      callable = search rules;
      place = omega (arith, t.size, c.bucket_of-at.ensures.1);
      chain = chain-starts t _;
      slot = (omega (arith, t.links.size, c.requires.slot.1), omega (arith, c.requires.slot.1));
    }

pub returns : goal.returns
returns c =
    let t = c.requires.table in
    let q = c.bucket_of-at.ensures in
    let e = q.0 ∙ ap₂ bucket c.field-owner.ensures c.field.ensures in
    let done = c.enter.ensures in
    record {
      table = rw (done.entered, done.linked) (slot-entered t _ e q.1 c.requires.slot.0 c.requires.slot.1);
      answer = none_above t (SamePassword _ _) _ e
          (λ j s. (s.there, ap₂ bucket (sym s.owner) (sym s.p1)))
          (searched (SamePassword _ _) _ _ (λ k a p. search rules) done.answer);
    }
