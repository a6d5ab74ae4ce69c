-- `enter` searches the chain at the place of the name in slot o, and puts slot o at its head; a free slot it passes over.
use native.Mathlib.Omega.{arith}
use mathlib.Core.Path.{sym, ap₂, ◌∙◌}
use Rattle.check_rows.proofs.Chaining.{slot-entered, slot-passed, chain-starts, none_above, searched}
use borrow.Author.Rules.{rules}
use Rattle.layout.proofs.Deciding.{yes-it}
use Rattle.check_objects.specs.Names.{SameName, name_place}
use Rattle.check_objects.proofs.names.enter.Goals as goal

pub returns-then-field-eq0 : goal.returns-then-field-eq0
returns-then-field-eq0 c =
    record {
      table = slot-passed c.requires.table (λ live. live (omega arith));
      answer = yes-it (λ j above s. s.here (omega arith));
    }

pub enter-requires : goal.enter-requires
enter-requires c =
    let t = c.requires.table in record {
      callable = search rules;
      place = omega (arith, t.size, c.place_of-at.ensures.1);
      chain = chain-starts t _;
      slot = (omega (arith, t.links.size, c.requires.slot.1), omega (arith, c.requires.slot.1));
    }

pub returns : goal.returns
returns c =
    let t = c.requires.table in
    let q = c.place_of-at.ensures in
    let e = q.0 ∙ ap₂ name_place c.field-2.ensures c.field-serial.ensures in
    let done = c.enter.ensures in
    record {
      table = rw (done.entered, done.linked) (slot-entered t _ e q.1 c.requires.slot.0 c.requires.slot.1);
      answer = none_above t (SameName _ _) _ e
          (λ j s. (s.there, ap₂ name_place (sym s.volume) (sym s.serial)))
          (searched (SameName _ _) _ _ (λ k a p. search rules) done.answer);
    }
