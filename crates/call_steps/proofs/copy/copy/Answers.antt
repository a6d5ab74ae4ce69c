-- `copy` lends two parts to the library's copy.
use Rattle.call_steps.proofs.Copying.{part-copied}
use Rattle.call_steps.proofs.copy.copy.Goals as goal

pub returns : goal.returns
returns c =
    let a = c.args in
    part-copied a.src.now a.dst.now _ a.from a.to a.n c.requires.0 c.requires.1
    c.copy_from_slice.ensures.after
