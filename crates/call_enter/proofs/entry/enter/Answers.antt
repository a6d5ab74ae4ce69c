-- `enter` is refused by 2, 3 or 4, or pays the fee and goes on to 5, 19 and 6.
use Prim.Native.Nat.{ℕ}
use mathlib.Core.Path.{◌≡◌, refl, sym, ap, ◌∙◌}
use mathlib.Core.Bool.{true}
use mathlib.Core.List.{List}
use Rattle.std.proofs.lemmas.Result.{err_from_is_err_and}
use Rattle.values.specs.declared.refusal.Refusal.TheVariants.{OutOfRange, NotRunning, CannotPay}
use Rattle.rules.specs.Refusals.{caller, running}
use Rattle.layout.specs.View.{view}
use Rattle.call_steps.specs.Request.{call_of}
use Rattle.call_steps.specs.Run.{Process}
use Rattle.call_steps.proofs.Finding.{slot_of, slot_none}
use Rattle.call_steps.proofs.Callers.{found-high, process-zero, running-data}
use Rattle.call_steps.proofs.Charging.{can-pay}
use Rattle.call_steps.proofs.Entering.{running-process}
use Rattle.call_enter.specs.Enters.{untold, entry_of}
use Rattle.call_enter.proofs.Entering.{told-refused, enter-two, enter-three, enter-four, enter-paid, payer-paid, plain-paid}
use Rattle.call_enter.proofs.entry.enter.Goals as goal
use Rattle.call_enter.proofs.entry.enter.Goals.{In-Some, Else-not-running}

is-caller : (c : In-Some) (d : List ℕ) → c.in-Some.me ≡ caller (view c.args.bytes.now c.args.links.now c.args.words.now) (call_of c.args.req d c.args.buffer c.args.scratch)
unfolding call_of caller
is-caller c d = (slot_of _ _ (c.in-Some.ensures c.args.words.now)).0

-- the caller runs
runs : (c : Else-not-running) → running (view c.args.bytes.now c.args.links.now c.args.words.now) c.in-Some.me ≡ true
runs c = sym (c.if-not-running.ensures c.args.words.now)

process : (c : Else-not-running) → Process c.args.bytes.now c.args.links.now c.in-Some.me
process c = running-process c.args.bytes.now c.args.links.now c.args.words.now _ (runs c)

pub returns-then-not-in_range : goal.returns-then-not-in_range
unfolding call_of
returns-then-not-in_range c d long =
    told-refused OutOfRange c.from.ensures _ _
    ∙ enter-two c.args.bytes.now c.args.links.now c.args.words.now
    (call_of c.args.req d c.args.buffer c.args.scratch) (sym (c.if-not-in_range.ensures d long))

-- no object has the caller's name, so slot 0 is the rules' caller
pub returns-in_default : goal.returns-in_default
unfolding call_of caller
returns-in_default c d long =
    let a = c.args in
    told-refused NotRunning c.from-in_default.ensures _ _
    ∙ enter-three a.bytes.now a.links.now a.words.now (call_of a.req d a.buffer a.scratch) 0
    (sym (c.if-not-in_range.ensures d long)) (sym (slot_none _ (c.in_default.ensures a.words.now)))
    (sym (running-data (view a.bytes.now a.links.now a.words.now) 0 (process-zero a.bytes.now a.links.now a.words.now 0 refl)))

pub running-requires-clause-fact_2 : goal.running-requires-clause-fact_2
running-requires-clause-fact_2 c = rw ((slot_of _ _ (c.in-Some.ensures c.args.words.now)).0) (found-high _ _)

pub returns-then-not-running : goal.returns-then-not-running
unfolding call_of
returns-then-not-running c d long =
    let a = c.args in
    told-refused NotRunning c.from-then-not-running.ensures _ _
    ∙ enter-three a.bytes.now a.links.now a.words.now (call_of a.req d a.buffer a.scratch) c.in-Some.me
    (sym (c.if-not-in_range.ensures d long)) (is-caller (goal.at.returns-then-not-running c).In-Some d)
    (sym (c.if-not-running.ensures a.words.now))

pub pay-requires : goal.pay-requires
pay-requires c =
    can-pay c.args.bytes.now c.args.links.now c.args.words.now c.requires _ (process (goal.at.pay-requires c).Else-not-running)

pub returns-in_err-pay : goal.returns-in_err-pay
unfolding call_of
returns-in_err-pay c d long =
    let a = c.args in
    let at = (goal.at.returns-in_err-pay c).Else-not-running in
    let q = err_from_is_err_and _ c.from_residual.ensures.1 in
    ap (λ r. entry_of r c.pay.new.bytes c.pay.new.words) q.1
    ∙ told-refused CannotPay (q.2 ∙ ap untold c.in_err-pay.ensures.refusal) _ _
    ∙ enter-four a.bytes.now a.links.now a.words.now (call_of a.req d a.buffer a.scratch) c.in-Some.me
    (sym (c.if-not-in_range.ensures d long)) (is-caller (goal.at.returns-in_err-pay c).In-Some d) (runs at) _ c.fee_of-fee.ensures c.in_err-pay.ensures.slices refl

pub show-requires-clause-plain : goal.show-requires-clause-plain
show-requires-clause-plain c =
    plain-paid c.args.bytes.now c.args.links.now c.args.words.now _ (process (goal.at.show-requires-clause-plain c).Else-not-running) _ c.in_ok-pay.ensures.slices refl c.requires

pub show-requires-clause-process : goal.show-requires-clause-process
show-requires-clause-process c =
    payer-paid c.args.bytes.now c.args.links.now c.args.words.now _ (process (goal.at.show-requires-clause-process c).Else-not-running) _ c.in_ok-pay.ensures.slices refl

pub returns : goal.returns
unfolding call_of
returns c d long =
    let a = c.args in
    c.show.ensures
    ∙ enter-paid a.bytes.now a.links.now a.words.now (call_of a.req d a.buffer a.scratch) c.in-Some.me
    (sym (c.if-not-in_range.ensures d long)) (is-caller (goal.at.returns c).In-Some d) (runs (goal.at.returns c).Else-not-running) _ c.fee_of-fee.ensures c.in_ok-pay.ensures.slices refl
