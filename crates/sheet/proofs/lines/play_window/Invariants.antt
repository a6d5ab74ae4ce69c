-- `play_window` has played the lines before what is left of the window.
use lib.ListN.{length}
use Rattle.script_play.specs.Workspace.{StaysLent}
use Rattle.sheet.proofs.Going.{Going}
use Rattle.sheet.proofs.lines.play_window.Given as goal

abbrev pub invariant-loop-rest : goal.invariant-loop-rest
invariant-loop-rest l = record {
  going : Going l.room l.held l.window l.initial.run l.run l.rest;
  lent : StaysLent l.initial.room l.room;
}

abbrev pub decreases-loop-rest : goal.decreases-loop-rest
decreases-loop-rest l = length l.rest
