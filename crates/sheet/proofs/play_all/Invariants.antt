-- `play_all` has `TURNS` turns, less those that it took.
use Prim.Native.Nat.{◌-◌}
use Rattle.sheet.proofs.Going.{Turning}
use Rattle.sheet.proofs.play_all.Given as goal

abbrev pub invariant-loop-turn : goal.invariant-loop-turn
invariant-loop-turn l = Turning l.room l.held l.input l.run (140737488355328 - l._turn)
