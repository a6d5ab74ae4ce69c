-- `in_window` looks at the capability's window.
use mathlib.Core.Path.{ap, ◌∙◌}
use Rattle.rules.specs.Calls.{lies_in}
use Rattle.call_transfer.specs.Runs.{range}
use Rattle.call_transfer.proofs.window.in_window.Goals as goal

pub returns : goal.returns
returns c =
    let a = c.args in
    c.holds.ensures ∙ ap (lies_in (range a.range.start a.range.end)) c.window_at.ensures
