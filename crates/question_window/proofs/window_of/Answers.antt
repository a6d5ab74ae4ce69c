-- `window_of` is refused by 2, 3, 5, 19 or 6, or reads the window.
use mathlib.Core.Path.{◌≡◌, refl, sym, ap, ap₂, ◌∙◌}
use mathlib.Core.Bool.{true, false, ◌&&◌}
use Rattle.std.specs.Prelude.{Err}
use Rattle.std.proofs.lemmas.Result.{err_from_is_err_and}
use Rattle.values.specs.Refusals.{number_of}
use Rattle.values.proofs.Numbers.{number-some}
use Rattle.rules.specs.Code as Code
use Rattle.rules.specs.Store.{State, object_named}
use Rattle.rules.specs.Refusals.{name_fits, running}
use Rattle.layout.specs.View.{view}
use Rattle.layout.proofs.Shown.{cap-here}
use Rattle.call_steps.specs.Request.{name_of, capability_of}
use Rattle.call_steps.specs.Run.{Process, Held}
use Rattle.call_steps.proofs.Finding.{slot_of, slot_none}
use Rattle.call_steps.proofs.Callers.{found-high, process-zero, running-data}
use Rattle.call_steps.proofs.Entering.{running-process}
use Rattle.call_steps.proofs.Holding.{found-held}
use Rattle.question_window.specs.Asks.{windowed_of}
use Rattle.question_window.proofs.Asking.{asked-two, asked-three, asked-late, asked-done, asked-slot}
use Rattle.question_window.proofs.window_of.Goals as goal
use Rattle.question_window.proofs.window_of.Goals.{Else-not-name_fits-2, In-Some, Else-not-running, In_ok-k, then-not-name_fits-via-then-not-name_fits, then-not-name_fits-via-else-not-name_fits+then-not-name_fits-2}

-- both names are in range
fit : (c : Else-not-name_fits-2) → (name_fits (name_of c.args.caller) && name_fits (capability_of c.args.x).name) ≡ true
fit c = ap₂ ◌&&◌ (sym c.if-not-name_fits.ensures) (sym c.if-not-name_fits-2.ensures)

who : (c : In-Some) → c.in-Some.me ≡ object_named (view c.args.bytes.now c.args.links.now c.args.words.now) (name_of c.args.caller)
who c = (slot_of _ _ (c.in-Some.ensures c.args.words.now)).0

-- the caller runs
runs : (c : Else-not-running) → running (view c.args.bytes.now c.args.links.now c.args.words.now) c.in-Some.me ≡ true
runs c = sym (c.if-not-running.ensures c.args.words.now)

pub returns-then-not-name_fits : goal.returns-then-not-name_fits
returns-then-not-name_fits c =
    let s = view c.args.bytes.now c.args.links.now c.args.words.now in
    let caller = name_of c.args.caller in
    let x = capability_of c.args.x in
    let unfit : (name_fits caller && name_fits x.name) ≡ false = elim c.then-not-name_fits.branch [
      | then-not-name_fits-via-then-not-name_fits w ↦ ap (λ q. q && name_fits x.name) (sym w.if-not-name_fits.ensures)
      | then-not-name_fits-via-else-not-name_fits+then-not-name_fits-2 w ↦ ap₂ ◌&&◌ (sym w.if-not-name_fits.ensures) (sym w.if-not-name_fits-2.ensures)
    ] in
    sym (asked-two s caller x unfit)

-- no object has the caller's name, so slot 0 is the rules' caller
pub returns-in_default : goal.returns-in_default
returns-in_default c =
    let a = c.args in
    let s = view a.bytes.now a.links.now a.words.now in
    sym (asked-three s (name_of a.caller) (capability_of a.x) (fit (goal.at.returns-in_default c).Else-not-name_fits-2) 0
    (sym (slot_none _ (c.in_default.ensures a.words.now)))
    (sym (running-data s 0 (process-zero a.bytes.now a.links.now a.words.now 0 refl))))

pub running-requires-clause-fact_2 : goal.running-requires-clause-fact_2
running-requires-clause-fact_2 c = rw ((slot_of _ _ (c.in-Some.ensures c.args.words.now)).0) (found-high _ _)

pub returns-then-not-running : goal.returns-then-not-running
returns-then-not-running c =
    let a = c.args in
    let at = (goal.at.returns-then-not-running c) in
    sym (asked-three (view a.bytes.now a.links.now a.words.now) (name_of a.caller) (capability_of a.x) (fit at.Else-not-name_fits-2)
    c.in-Some.me (who at.In-Some) (sym (c.if-not-running.ensures a.words.now)))

pub admit-requires-clause-process : goal.admit-requires-clause-process
admit-requires-clause-process c =
    running-process c.args.bytes.now c.args.links.now c.args.words.now _ (sym (c.if-not-running.ensures c.args.words.now))

pub returns-in_err-k : goal.returns-in_err-k
returns-in_err-k c =
    let a = c.args in
    let at = (goal.at.returns-in_err-k c) in
    let why = c.in_err-k.field-0.0 in
    let handed = err_from_is_err_and _ c.from_residual.ensures.1 in
    ap windowed_of (handed.1 ∙ ap Err handed.2)
    ∙ sym (asked-late (view a.bytes.now a.links.now a.words.now) (name_of a.caller) (capability_of a.x) (fit at.Else-not-name_fits-2)
    c.in-Some.me (who at.In-Some) (runs at.Else-not-running) (number_of why.refusal) c.in_err-k.ensures.code (number-some why.refusal))

-- 5, 19 and 6 are not met
held : (c : In_ok-k) → Held c.args.links.now c.in_ok-k.k
held c =
    let a = c.args in
    let at = (goal.at.In_ok-k c) in
    found-held a.bytes.now a.links.now a.words.now c.in-Some.me (capability_of a.x) c.in_ok-k.k c.in_ok-k.ensures.slot
    (asked-slot (view a.bytes.now a.links.now a.words.now) (name_of a.caller) (capability_of a.x) (fit at.Else-not-name_fits-2)
    c.in-Some.me (who at.In-Some) (runs at.Else-not-running) Code.done c.in_ok-k.ensures.code refl c.in_ok-k.k c.in_ok-k.ensures.slot)

pub window_at-requires-clause-fact_2 : goal.window_at-requires-clause-fact_2
window_at-requires-clause-fact_2 c = let h = held c in record { low = h.low; high = h.high }

pub returns : goal.returns
returns c =
    let a = c.args in
    let at = (goal.at.returns c) in
    ap (λ v. record { code = Code.done; window = v }) (c.window_at.ensures
    ∙ sym (ap (λ z. z.window) (cap-here a.bytes.now a.links.now a.words.now _ (held at.In_ok-k).live)))
    ∙ sym (asked-done (view a.bytes.now a.links.now a.words.now) (name_of a.caller) (capability_of a.x) (fit at.Else-not-name_fits-2)
    c.in-Some.me (who at.In-Some) (runs at.Else-not-running) Code.done c.in_ok-k.ensures.code refl c.in_ok-k.k c.in_ok-k.ensures.slot)
