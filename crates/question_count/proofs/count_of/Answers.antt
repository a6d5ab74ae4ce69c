-- `count_of` is refused by 2 or 3, or counts the capabilities of the object named.
use mathlib.Core.Path.{◌≡◌, refl, sym, ap, ap₂, ◌∙◌}
use mathlib.Core.Bool.{true, false, ◌&&◌, and-false}
use native.Mathlib.Omega.{arith}
use Rattle.rules.specs.Code as Code
use Rattle.rules.specs.Store.{object_named}
use Rattle.rules.specs.Rights.{is_right}
use Rattle.rules.specs.Refusals.{name_fits}
use Rattle.layout.specs.View.{view}
use Rattle.values.proofs.Thirteen.{right-low}
use Rattle.call_steps.specs.Request.{name_of}
use Rattle.call_steps.proofs.Finding.{slot_of, slot_none}
use Rattle.call_steps.proofs.Callers.{found-high, process-zero}
use Rattle.question_count.specs.Holding.{holding_at}
use Rattle.question_count.proofs.Counting.{opening-at, holding-none}
use Rattle.question_count.proofs.Asking.{caller-is, asked-two, asked-three, asked-done}
use Rattle.question_count.proofs.count_of.Goals as goal
use Rattle.question_count.proofs.count_of.Goals.{Else-not-name_fits-2, In-Some, Else-not-is_process, then-not-is_right-via-then-not-is_right, then-not-is_right-via-else-not-is_right+then-not-name_fits, then-not-is_right-via-else-not-is_right+else-not-name_fits+then-not-name_fits-2}

-- the right is one, and both names are in range
fit : (c : Else-not-name_fits-2) → (is_right c.args.right && name_fits (name_of c.args.caller) && name_fits (name_of c.args.object)) ≡ true
fit c = ap₂ ◌&&◌ (ap₂ ◌&&◌ (sym c.if-not-is_right.ensures) (sym c.if-not-name_fits.ensures)) (sym c.if-not-name_fits-2.ensures)

who : (c : In-Some) → c.in-Some.me ≡ object_named (view c.args.bytes.now c.args.links.now c.args.words.now) (name_of c.args.caller)
who c = (slot_of _ _ (c.in-Some.ensures c.args.words.now)).0

process : (c : Else-not-is_process) → (((view c.args.bytes.now c.args.links.now c.args.words.now).object c.in-Some.me).live && ((view c.args.bytes.now c.args.links.now c.args.words.now).object c.in-Some.me).process) ≡ true
process c = caller-is c.args.bytes.now c.args.links.now c.args.words.now _ ∙ sym c.if-not-is_process.ensures

pub returns-then-not-is_right : goal.returns-then-not-is_right
returns-then-not-is_right c =
    let caller = name_of c.args.caller in
    let object = name_of c.args.object in
    let right = c.args.right in
    let unfit : (is_right right && name_fits caller && name_fits object) ≡ false = elim c.then-not-is_right.branch [
      | then-not-is_right-via-then-not-is_right w ↦ ap (λ q. q && name_fits caller && name_fits object) (sym w.if-not-is_right.ensures)
      | then-not-is_right-via-else-not-is_right+then-not-name_fits w ↦
          ap₂ (λ p q. p && q && name_fits object) (sym w.if-not-is_right.ensures) (sym w.if-not-name_fits.ensures)
      | then-not-is_right-via-else-not-is_right+else-not-name_fits+then-not-name_fits-2 w ↦
          ap₂ ◌&&◌ (ap₂ ◌&&◌ (sym w.if-not-is_right.ensures) (sym w.if-not-name_fits.ensures)) (sym w.if-not-name_fits-2.ensures)
    ] in
    sym (asked-two (view c.args.bytes.now c.args.links.now c.args.words.now) caller object right unfit)

-- no object has the caller's name, so slot 0 is the rules' caller
pub returns-in_default : goal.returns-in_default
returns-in_default c =
    let a = c.args in
    let s = view a.bytes.now a.links.now a.words.now in
    sym (asked-three s (name_of a.caller) (name_of a.object) a.right (fit (goal.at.returns-in_default c).Else-not-name_fits-2) 0
    (sym (slot_none _ (c.in_default.ensures a.words.now)))
    (ap (λ p. (s.object 0).live && p) (sym (process-zero a.bytes.now a.links.now a.words.now 0 refl)) ∙ and-false (s.object 0).live))

pub is_process-requires-clause-slot : goal.is_process-requires-clause-slot
is_process-requires-clause-slot c = rw ((slot_of _ _ (c.in-Some.ensures c.args.words.now)).0) (found-high _ _)

pub returns-then-not-is_process : goal.returns-then-not-is_process
returns-then-not-is_process c =
    let a = c.args in
    let at = goal.at.returns-then-not-is_process c in
    sym (asked-three (view a.bytes.now a.links.now a.words.now) (name_of a.caller) (name_of a.object) a.right (fit at.Else-not-name_fits-2)
    c.in-Some.me (who at.In-Some) (caller-is a.bytes.now a.links.now a.words.now _ ∙ sym c.if-not-is_process.ensures))

-- none is of an absent object
pub returns-in_default-find_object : goal.returns-in_default-find_object
returns-in_default-find_object c =
    let a = c.args in
    let s = view a.bytes.now a.links.now a.words.now in
    let at = goal.at.returns-in_default-find_object c in
    ap (λ m. record { code = Code.done; count = m })
    (holding-none s (object_named s (name_of a.object)) a.right (slot_none _ (c.in_default-find_object.ensures a.words.now))
    ∙ sym (opening-at s c.requires.valid (name_of a.object) a.right c.in-Some.me))
    ∙ sym (asked-done s (name_of a.caller) (name_of a.object) a.right (fit at.Else-not-name_fits-2) c.in-Some.me (who at.In-Some) (process at.Else-not-is_process))

pub overflow_cast-right : goal.overflow_cast-right
overflow_cast-right c = omega (arith, right-low c.args.right (sym c.if-not-is_right.ensures))

pub returns : goal.returns
returns c =
    let a = c.args in
    let s = view a.bytes.now a.links.now a.words.now in
    let at = goal.at.returns c in
    ap (λ m. record { code = Code.done; count = m })
    (c.held.ensures a.bytes.now a.words.now
    ∙ ap (λ x. holding_at s x a.right) (slot_of _ _ (c.in-Some-find_object.ensures a.words.now)).0
    ∙ sym (opening-at s c.requires.valid (name_of a.object) a.right c.in-Some.me))
    ∙ sym (asked-done s (name_of a.caller) (name_of a.object) a.right (fit at.Else-not-name_fits-2) c.in-Some.me (who at.In-Some) (process at.Else-not-is_process))
