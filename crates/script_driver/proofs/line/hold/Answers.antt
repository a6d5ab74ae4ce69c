-- `hold` copies what there is room for.
use Rattle.script_driver.proofs.Linking.{hold-is}
use Rattle.script_driver.proofs.line.hold.Goals as goal

pub returns : goal.returns
returns c =
    hold-is c.args.held.now c.args.part.now _ _ _ _ c.requires.size c.requires.few c.min-n.ensures
    c.copy_from_slice.ensures.after
