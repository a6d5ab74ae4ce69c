-- `scan_caps` starts with the list of the living slots and a table of no slot.
use borrow.Author.Rules.{rules}
use Rattle.layout.specs.Layout as Layout
use Rattle.check_passwords.specs.Passwords.{passwords}
use Rattle.check_rows.proofs.Chaining.{no_slot}
use Rattle.check_rows.proofs.Counting.{used-past}
use Rattle.check_scan.proofs.Listing.{listed}
use Rattle.check_scan.proofs.scan_caps.Goals as goal

pub scan_all-requires : goal.scan_all-requires
scan_all-requires c =
    record {
      sizes = search rules;
      table = no_slot (passwords _ _) 512 (used-past 512 Layout.OWNER _ (λ _. ⊥));
      listed = listed _ _ _ c.list_living-n.ensures;
    }
