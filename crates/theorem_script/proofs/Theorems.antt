-- The proofs of specs/Theorems.antt, from the other files.
use native.Mathlib.Omega.{arith}
use Rattle.script_text.specs.Lines.{lines_of}
use Rattle.script_answers.proofs.Outputs.{writes-same}
use Rattle.theorem_script.proofs.Running.{script-writes}
use Rattle.theorem_script.proofs.Fixing.{feeds-stop, ends_same, feeds-same}
use Rattle.theorem_script.proofs.Following.{writes-follow}
use Rattle.script_driver.proofs.Going.{feeds-some}
use Rattle.theorem_script.specs.Theorems.{ScriptWrites, ProgramWrites, EveryScript, OneText, AnySlots, ScriptRuns}
use Rattle.theorem_script.specs.Theorems.{TurnExact, EndExact, TurnGoes}
use Rattle.theorem_script.proofs.Standing.{stores-follow, stores-exact}
use Rattle.theorem_script.proofs.Taking.{free-follow}
use Rattle.theorem_script.proofs.Writing.{rules-write}
use Rattle.theorem_script.proofs.Existing.{writes-exist}
use Rattle.theorem_script.proofs.Calling.{script-runs}
use Rattle.theorem_script.proofs.Keeping.{program-script}

pub any-slots : AnySlots
unfolding AnySlots
any-slots script text w = rules-write script (writes-follow free-follow script w)

pub script-text : ScriptWrites
unfolding ScriptWrites AnySlots
script-text input text t = any-slots input text (writes-follow stores-follow input (script-writes t))

pub program-writes : ProgramWrites
unfolding ProgramWrites ScriptWrites
program-writes s held input text p = script-text input text (program-script p)

pub every-script : EveryScript
unfolding EveryScript
every-script = writes-exist

pub one-text : OneText
unfolding OneText
one-text = writes-same

pub script-run : ScriptRuns
unfolding ScriptRuns
script-run input text first numbers t = script-runs (lines_of input) text first numbers (script-writes t)

pub turn-exact : TurnExact
unfolding TurnExact
turn-exact room n n' g h h' l i i' window out out' a b =
    let e = feeds-same stores-exact a b in (e.count, e.text, e.stage, e.left)

pub end-exact : EndExact
unfolding EndExact
end-exact g l out out' a b = ends_same stores-exact a b

pub turn-goes : TurnGoes
unfolding TurnGoes
turn-goes M room n b g h l i window out f = (feeds-some f (omega arith), feeds-stop f)
