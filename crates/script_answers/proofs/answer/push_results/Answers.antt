-- `push_results` is the rules' `results`, arm by arm.
use Prim.Native.Nat.{ℕ}
use mathlib.Core.Path.{sym, subst}
use mathlib.Core.List.{List}
use native.Mathlib.Omega.{arith}
use Rattle.rules.specs.Rights.{op}
use Rattle.rules.specs.Script.{results}
use Rattle.call_steps.specs.Request.{answer_of}
use Rattle.script_answers.specs.Pushed.{Pushed}
use Rattle.script_answers.proofs.Results.{other-results}
use Rattle.script_answers.proofs.Gathering.{results-as, pushed_none}
use Rattle.script_answers.proofs.answer.push_results.Goals as goal

pub returns-in-1 : goal.returns-in-1
unfolding answer_of op results
returns-in-1 c = results-as _ 1 _ c.in-1.is c.push_capability.ensures (omega arith)

pub returns-in-2 : goal.returns-in-2
unfolding answer_of op results
returns-in-2 c = results-as _ 2 _ c.in-2.is c.push_bytes.ensures (omega arith)

pub returns-in-4 : goal.returns-in-4
unfolding answer_of op results
returns-in-4 c = results-as _ 4 _ c.in-4.is c.push_two.ensures (omega arith)

pub returns-in-5 : goal.returns-in-5
unfolding answer_of op results
returns-in-5 c = results-as _ 5 _ c.in-5.is c.push_capability-in-5.ensures (omega arith)

pub returns-in-7 : goal.returns-in-7
unfolding answer_of op results
returns-in-7 c = results-as _ 7 _ c.in-7.is c.push_capability-in-7.ensures (omega arith)

pub returns-in-14 : goal.returns-in-14
unfolding answer_of op results
returns-in-14 c = results-as _ 14 _ c.in-14.is c.push_message.ensures (omega arith)

pub returns-in_default : goal.returns-in_default
returns-in_default c =
    subst (λ (l : List ℕ). Pushed 2827 c.args.out.now c.args.at l c.args.out.now c.args.at)
    (sym (other-results _ c.args.number c.in_default.in_default-own.rest.0.0.0.0.0.1 c.in_default.in_default-own.rest.0.0.0.0.1
    c.in_default.in_default-own.rest.0.0.0.1 c.in_default.in_default-own.rest.0.0.1 c.in_default.in_default-own.rest.0.1 c.in_default.in_default-own.rest.1))
    (pushed_none _ _ _ (omega arith))
