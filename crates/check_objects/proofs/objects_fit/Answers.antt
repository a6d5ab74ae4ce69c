-- `objects_fit` starts with a table of no slot.
use borrow.Author.Rules.{rules}
use Rattle.layout.specs.Layout as Layout
use Rattle.check_objects.specs.Names.{name_keys}
use Rattle.check_rows.proofs.Chaining.{no_slot}
use Rattle.check_rows.proofs.Counting.{used-past}
use Rattle.check_objects.proofs.objects_fit.Goals as goal

pub all_fit-requires : goal.all_fit-requires
all_fit-requires c =
    record {
      sizes = search rules;
      table = no_slot (name_keys _ _) 64 (used-past 64 Layout.MASTER _ (λ _. ⊥));
    }
