-- `all_masters` has added up the moneywords of the slots that it passed.
use mathlib.Core.List.{List}
use Prim.Native.Nat.{ℕ}
use Rattle.layout.specs.View.{view}
use Rattle.check_money.specs.Amount.{master_money}
use Rattle.layout.proofs.Adding.{Added}
use Rattle.script_answers.proofs.ends.all_masters.Given as goal

abbrev pub invariant-loop-i : goal.invariant-loop-i
invariant-loop-i l = (b : List ℕ) → Added (master_money (view b l.links l.words)) 4294967295 512 l.i l.total
