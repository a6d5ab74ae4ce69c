-- `revive` is stopped by 8, by 16 on either ground, or by 9; or it moves the sum and clears the target's mark.
use mathlib.Core.Path.{refl, sym, ◌∙◌}
use native.Mathlib.Omega.{arith}
use borrow.Author.Tests.{eq-eqb, ne_eqb}
use Rattle.std.proofs.lemmas.Result.{err_from_is_err_and}
use Rattle.rules.specs.Refusals.{◌when◌, first}
use Rattle.values.specs.declared.refusal.Refusal.TheVariants.{NotRevivable, TooLittle}
use Rattle.layout.proofs.Shown.{set-yes, set-no}
use Rattle.call_steps.proofs.Replying.{refuses, refused-is, replies-refused, done-is}
use Rattle.call_marks.specs.Runs.{revive_run}
use Rattle.call_marks.proofs.Stops.{Reviving, revive-refused, revive-met, revive-done, room-is}
use Rattle.call_marks.proofs.terminated.revive.Goals as goal
use Rattle.call_marks.proofs.terminated.revive.Goals.{In_ok-o}
use Rattle.call_marks.proofs.terminated.revive.Goals.{then-bytes-o-eq0-via-then-bytes-o-eq0, then-bytes-o-eq0-via-else-bytes-o-eq0+then-sum-eq0}

reviving : (c : In_ok-o) → Reviving c.args.bytes.now c.args.links.now c.args.me c.args.k c.in_ok-o.o
reviving c = record {
  found = c.in_ok-o.ensures.slot;
  process = c.in_ok-o.ensures.code;
  target = c.requires.target;
  caller = c.requires.caller;
}

pub returns-in_err-o : goal.returns-in_err-o
unfolding revive_run
returns-in_err-o c =
    let p = err_from_is_err_and c.from_residual.result c.from_residual.ensures.1 in
    rw (p.1, p.2) (replies-refused _ _ (revive-refused _ _ _ c.args.words.now _ c.in_err-o.ensures.code c.args.me c.args.sum))

pub returns-then-bytes-o-eq0 : goal.returns-then-bytes-o-eq0
unfolding first ◌when◌
returns-then-bytes-o-eq0 c =
    let R = reviving (goal.at.returns-then-bytes-o-eq0 c).In_ok-o in
    refused-is (refuses NotRevivable)
    (elim c.then-bytes-o-eq0.branch [
      | then-bytes-o-eq0-via-then-bytes-o-eq0 w ↦
          revive-met R c.args.words.now c.args.sum 16 (set-no _ w.if-bytes-o-eq0.true) refl refl refl (omega arith)
      | then-bytes-o-eq0-via-else-bytes-o-eq0+then-sum-eq0 w ↦
          revive-met R c.args.words.now c.args.sum 16 (set-yes _ w.if-bytes-o-eq0.false) (eq-eqb _ 0 w.if-sum-eq0.true) refl
          refl (omega arith)
    ])

pub returns-then-below : goal.returns-then-below
unfolding first ◌when◌
returns-then-below c =
    refused-is (refuses TooLittle)
    (revive-met (reviving (goal.at.returns-then-below c).In_ok-o) c.args.words.now c.args.sum 9
    (set-yes _ c.if-bytes-o-eq0.false) (ne_eqb _ 0 c.if-sum-eq0.false) (sym c.below.ensures ∙ c.if-below.true)
    refl (omega arith))

pub move_cash-requires-clause-fact_4 : goal.move_cash-requires-clause-fact_4
move_cash-requires-clause-fact_4 c =
    room-is (reviving (goal.at.move_cash-requires-clause-fact_4 c).In_ok-o) c.args.words.now c.args.sum
    (sym c.below.ensures ∙ c.if-below.false) c.requires.affords

pub returns : goal.returns
returns c =
    done-is c.done.ensures (rw c.move_cash.ensures
    (revive-done (reviving (goal.at.returns c).In_ok-o) c.args.words.now c.args.sum
    (set-yes _ c.if-bytes-o-eq0.false) (ne_eqb _ 0 c.if-sum-eq0.false)
    (sym c.below.ensures ∙ c.if-below.false)))
