-- `line_end` is the kit's search for a byte.
use mathlib.Core.Path.{refl}
use Rattle.script_text.proofs.Windows.{ends-found, ends-none}
use Rattle.script_text.proofs.lines.line_end.Goals as goal

pub returns-in-Some : goal.returns-in-Some
returns-in-Some c =
    let found = c.in-Some.ensures in
    ends-found _ _ _ c.requires.0 c.requires.1 c.in-Some.i _ refl found.0 found.1

pub returns-in-None : goal.returns-in-None
returns-in-None c = ends-none _ _ _ c.requires.0 c.requires.1 c.in-None.ensures
