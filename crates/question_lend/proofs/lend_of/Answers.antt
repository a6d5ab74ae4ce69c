-- `lend_of` is refused by 2 or 3, or tells the first place that will do, or that none will.
use mathlib.Core.Path.{◌≡◌, refl, sym, ap, ap₂, ◌∙◌}
use mathlib.Core.Bool.{true, false, ◌&&◌}
use native.Mathlib.Omega.{arith}
use Rattle.rules.specs.Limit as Limit
use Rattle.rules.specs.Store.{object_named}
use Rattle.rules.specs.Refusals.{name_fits, running}
use Rattle.rules.specs.Questions.{entries, list_fits, wish_fits}
use Rattle.rules.proofs.Tests.{all3}
use Rattle.layout.specs.View.{view}
use Rattle.call_steps.specs.Request.{name_of}
use Rattle.call_steps.specs.Run.{Process}
use Rattle.call_steps.proofs.Finding.{slot_of, slot_none}
use Rattle.call_steps.proofs.Callers.{found-high, process-zero, running-data}
use Rattle.call_steps.proofs.Entering.{running-process}
use Rattle.question_lend.specs.Asks.{wish_of}
use Rattle.question_lend.proofs.Listing.{few}
use Rattle.question_lend.proofs.Asking.{asked-two, asked-three, asked-none, asked-found}
use Rattle.question_lend.proofs.lend_of.Goals as goal
use Rattle.question_lend.proofs.lend_of.Goals.{Else-not-derive_fits, In-Some, Else-not-running, then-not-name_fits-via-then-not-name_fits, then-not-name_fits-via-else-not-name_fits+then-not-list_fits, then-not-name_fits-via-else-not-name_fits+else-not-list_fits+then-not-derive_fits}

-- the caller's name, the list and the wish are in range
fit : (c : Else-not-derive_fits) → (name_fits (name_of c.args.caller) && list_fits c.args.list.now && wish_fits (wish_of c.args.x)) ≡ true
unfolding wish_fits
fit c = ap₂ ◌&&◌ (ap₂ ◌&&◌ (sym c.if-not-name_fits.ensures) (sym c.if-not-list_fits.ensures)) (sym c.if-not-derive_fits.ensures)

who : (c : In-Some) → c.in-Some.me ≡ object_named (view c.args.bytes.now c.args.links.now c.args.words.now) (name_of c.args.caller)
who c = (slot_of _ _ (c.in-Some.ensures c.args.words.now)).0

-- the caller runs
runs : (c : Else-not-running) → running (view c.args.bytes.now c.args.links.now c.args.words.now) c.in-Some.me ≡ true
runs c = sym (c.if-not-running.ensures c.args.words.now)

pub returns-then-not-name_fits : goal.returns-then-not-name_fits
unfolding wish_fits
returns-then-not-name_fits c =
    let caller = name_of c.args.caller in
    let l = c.args.list.now in
    let x = wish_of c.args.x in
    let unfit : (name_fits caller && list_fits l && wish_fits x) ≡ false = elim c.then-not-name_fits.branch [
      | then-not-name_fits-via-then-not-name_fits w ↦ ap (λ q. q && list_fits l && wish_fits x) (sym w.if-not-name_fits.ensures)
      | then-not-name_fits-via-else-not-name_fits+then-not-list_fits w ↦
          ap₂ (λ p q. p && q && wish_fits x) (sym w.if-not-name_fits.ensures) (sym w.if-not-list_fits.ensures)
      | then-not-name_fits-via-else-not-name_fits+else-not-list_fits+then-not-derive_fits w ↦
          ap₂ ◌&&◌ (ap₂ ◌&&◌ (sym w.if-not-name_fits.ensures) (sym w.if-not-list_fits.ensures)) (sym w.if-not-derive_fits.ensures)
    ] in
    asked-two (view c.args.bytes.now c.args.links.now c.args.words.now) caller l x _ unfit refl

-- no object has the caller's name, so slot 0 is the rules' caller
pub returns-in_default : goal.returns-in_default
returns-in_default c =
    let a = c.args in
    let s = view a.bytes.now a.links.now a.words.now in
    asked-three s (name_of a.caller) a.list.now (wish_of a.x) (fit (goal.at.returns-in_default c).Else-not-derive_fits) 0
    (sym (slot_none _ (c.in_default.ensures a.words.now))) _
    (sym (running-data s 0 (process-zero a.bytes.now a.links.now a.words.now 0 refl))) refl

pub running-requires-clause-fact_2 : goal.running-requires-clause-fact_2
running-requires-clause-fact_2 c = rw ((slot_of _ _ (c.in-Some.ensures c.args.words.now)).0) (found-high _ _)

pub returns-then-not-running : goal.returns-then-not-running
returns-then-not-running c =
    let a = c.args in
    let at = goal.at.returns-then-not-running c in
    asked-three (view a.bytes.now a.links.now a.words.now) (name_of a.caller) a.list.now (wish_of a.x) (fit at.Else-not-derive_fits)
    c.in-Some.me (who at.In-Some) _ (sym (c.if-not-running.ensures a.words.now)) refl

pub first_place-requires-clause-fact_2 : goal.first_place-requires-clause-fact_2
first_place-requires-clause-fact_2 c =
    running-process c.args.bytes.now c.args.links.now c.args.words.now _ (sym (c.if-not-running.ensures c.args.words.now))

pub first_place-requires-clause-fact_3 : goal.first_place-requires-clause-fact_3
unfolding wish_fits
first_place-requires-clause-fact_3 c = sym c.if-not-derive_fits.ensures

-- a list that fits has few entries
pub first_place-requires-clause-fact_4 : goal.first_place-requires-clause-fact_4
first_place-requires-clause-fact_4 c = few c.args.list.now (sym c.if-not-list_fits.ensures)

pub overflow_cast-result : goal.overflow_cast-result
overflow_cast-result c =
    omega (arith, c.in-Some-first_place.ensures.low, few c.args.list.now (sym c.if-not-list_fits.ensures))

pub returns-in-Some-first_place : goal.returns-in-Some-first_place
returns-in-Some-first_place c =
    let a = c.args in
    let at = goal.at.returns-in-Some-first_place c in
    asked-found (view a.bytes.now a.links.now a.words.now) (name_of a.caller) a.list.now (wish_of a.x) (fit at.Else-not-derive_fits)
    c.in-Some.me (who at.In-Some) (runs at.Else-not-running) c.requires.valid c.in-Some-first_place.place c.in-Some-first_place.ensures

pub returns-in-None : goal.returns-in-None
returns-in-None c =
    let a = c.args in
    let at = goal.at.returns-in-None c in
    asked-none (view a.bytes.now a.links.now a.words.now) (name_of a.caller) a.list.now (wish_of a.x) (fit at.Else-not-derive_fits)
    c.in-Some.me (who at.In-Some) (runs at.Else-not-running) c.requires.valid c.in-None.ensures _ refl
