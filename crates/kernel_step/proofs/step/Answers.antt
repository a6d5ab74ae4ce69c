-- `step` sets the day, or is entered, then refused, or goes on to the call's own part.
use Prim.Native.Nat.{ℕ}
use mathlib.Core.Path.{refl, sym, ap, ◌∙◌, subst}
use mathlib.Core.Logic.{◌≢◌}
use native.Mathlib.Omega.{arith}
use mir.Val.{Fits}
use mir.Syntax.{w32}
use lib.ListN.{get_or}
use borrow.Author.Rules.{rules}
use Rattle.rules.specs.Rights.{day_number}
use Rattle.rules.specs.Demand.{Words}
use Rattle.layout.proofs.Plain.{plain}
use Rattle.call_steps.specs.Request.{Reply, call_of}
use Rattle.std.specs.Prelude.{Ok, Err}
use Rattle.std.proofs.lemmas.Result.{err_from_is_err_and}
use Rattle.values.proofs.Numbers.{number-some}
use Rattle.call_steps.proofs.Replying.{refuses}
use Rattle.call_enter.proofs.Beginning.{enter-begins}
use Rattle.call_enter.proofs.Stepping.{step-stops, step-begins}
use Rattle.kernel_step.specs.Slices.{Slices, slices, call_on}
use Rattle.kernel_step.specs.Own.{own_run}
use Rattle.kernel_step.specs.Ends.{StepEnds}
use Rattle.kernel_step.specs.Steps.{Stepped}
use Rattle.kernel_step.proofs.Asked.{own-asks}
use Rattle.kernel_step.proofs.Promising.{stepped}
use Rattle.kernel_step.proofs.Replying.{ends-refused, ends-replies, day-keeps, ends_same, ends_of}
use Rattle.kernel_step.proofs.Choosing.{step-host, step-process}
use Rattle.kernel_step.proofs.step.Goals as goal
use Rattle.kernel_step.proofs.step.Goals.{After-enter, Start}

-- the request's numbers are 32-bit: what its type says of its fields
given-fits : (c : Start) (i : ℕ) → Fits w32 (get_or c.args.req.presented.password i 0)
given-fits c i = search rules

drawn-fits : (c : Start) (i : ℕ) → Fits w32 (get_or c.args.req.drawn i 0)
drawn-fits c i = search rules

lock-fits : (c : Start) (i : ℕ) → Fits w32 (get_or c.args.req.lock i 0)
lock-fits c i = search rules

words : (c : Start) → Words (call_on c.args.req c.args.text.now
    (slices c.args.bytes.now c.args.links.now c.args.words.now c.args.buffer.now c.args.scratch.now))
unfolding call_of
words c = record {
  presented1 = omega (arith, given-fits c 0);
  presented2 = omega (arith, given-fits c 1);
  drawn1 = omega (arith, drawn-fits c 0);
  drawn2 = omega (arith, drawn-fits c 1);
  start = search rules;
  end = search rules;
  sum = search rules;
  lock1 = omega (arith, lock-fits c 0);
  lock2 = omega (arith, lock-fits c 1);
}

promised : (c : Start) {r : Reply} {is : Slices}
    → (let was = slices c.args.bytes.now c.args.links.now c.args.words.now c.args.buffer.now c.args.scratch.now in
    StepEnds c.args.req c.args.text.now r was is → Stepped c.args.req c.args.text.now r was is)
promised c E = stepped c.requires (words c) E

process : (c : After-enter) → c.args.req.number ≢ day_number
process c = c.if-req-eq-DAY.false

pub returns-then-req-eq-DAY : goal.returns-then-req-eq-DAY
unfolding call_of
returns-then-req-eq-DAY c =
    promised (goal.at.returns-then-req-eq-DAY c).Start (ends_same
    (ends-replies (day-keeps c.args.req.number c.if-req-eq-DAY.true)
    (c.set_day.ensures c.args.bytes.now c.args.words.now) refl refl)
    (sym (step-host c.args.bytes.now c.args.links.now c.args.words.now (call_on c.args.req c.args.text.now (slices c.args.bytes.now c.args.links.now c.args.words.now c.args.buffer.now c.args.scratch.now)) c.if-req-eq-DAY.true)))

pub enter-requires : goal.enter-requires
enter-requires c = plain c.requires

-- the refusal is handed on
pub returns-in_err-e : goal.returns-in_err-e
unfolding call_of
returns-in_err-e c =
    let q = err_from_is_err_and _ c.from_residual.ensures.1 in
    let x = c.in_err-e.field-0.0 in
    subst (λ r. Stepped c.args.req c.args.text.now r (slices c.args.bytes.now c.args.links.now c.args.words.now c.args.buffer.now c.args.scratch.now)
    (slices c.enter.new.bytes c.args.links.now c.enter.new.words c.args.buffer.now c.args.scratch.now))
    (sym (q.1 ∙ ap Err q.2))
    (promised (goal.at.returns-in_err-e c).Start (ends-refused (number-some x.refusal) (refuses x.refusal)
    (step-stops own_run c.args.links.now (call_on c.args.req c.args.text.now (slices c.args.bytes.now c.args.links.now c.args.words.now c.args.buffer.now c.args.scratch.now)) c.args.bytes.now c.args.words.now
    (Err x) c.enter.new.bytes c.enter.new.words (c.in_err-e.ensures c.args.text.now refl) (number-some x.refusal)
    ∙ sym (step-process c.args.bytes.now c.args.links.now c.args.words.now (call_on c.args.req c.args.text.now (slices c.args.bytes.now c.args.links.now c.args.words.now c.args.buffer.now c.args.scratch.now)) (process (goal.at.returns-in_err-e c).After-enter))) refl refl))

pub own-requires : goal.own-requires
own-requires c =
    own-asks c.requires.shape (enter-begins (plain c.requires) (call_on c.args.req c.args.text.now (slices c.args.bytes.now c.args.links.now c.args.words.now c.args.buffer.now c.args.scratch.now)) (Ok c.in_ok-e.e) c.enter.new.bytes
    c.enter.new.words (c.in_ok-e.ensures c.args.text.now refl) refl)

pub returns : goal.returns
unfolding call_of
returns c =
    promised (goal.at.returns c).Start (ends_of c.own.ensures
    (step-begins own_run c.args.links.now (call_on c.args.req c.args.text.now (slices c.args.bytes.now c.args.links.now c.args.words.now c.args.buffer.now c.args.scratch.now)) c.args.bytes.now c.args.words.now
    (Ok c.in_ok-e.e) c.enter.new.bytes c.enter.new.words (c.in_ok-e.ensures c.args.text.now refl) refl
    ∙ sym (step-process c.args.bytes.now c.args.links.now c.args.words.now (call_on c.args.req c.args.text.now (slices c.args.bytes.now c.args.links.now c.args.words.now c.args.buffer.now c.args.scratch.now)) (process (goal.at.returns c).After-enter))))
