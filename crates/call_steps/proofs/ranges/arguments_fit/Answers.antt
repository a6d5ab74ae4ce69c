-- `arguments_fit` is the rules' `arguments_fit`, arm by arm.
use Prim.Native.Nat.{ℕ}
use mathlib.Core.Path.{◌≡◌, sym, ap, ◌∙◌}
use mathlib.Core.List.{List}
use lib.Dec.{leb}
use Rattle.rules.specs.Rights.{op}
use Rattle.rules.specs.Refusals.{buffer_fits, scratch_fits, arguments_fit}
use Rattle.call_steps.specs.Request.{call_of}
use Rattle.call_steps.proofs.Fitting.{unknown-fits}
use Rattle.call_steps.proofs.ranges.arguments_fit.Goals as goal
use Rattle.call_steps.proofs.ranges.arguments_fit.Goals.{Start}

by_number : (c : Start) (d : List ℕ) (n : ℕ) → c.args.req.number ≡ n → arguments_fit (op n) (call_of c.args.req d c.args.buffer c.args.scratch) ≡ arguments_fit (op c.args.req.number) (call_of c.args.req d c.args.buffer c.args.scratch)
by_number c d n e = ap (λ k. arguments_fit (op k) (call_of c.args.req d c.args.buffer c.args.scratch)) (sym e)

pub returns-in-1 : goal.returns-in-1
unfolding arguments_fit call_of op
returns-in-1 c d e = c.make_fits.ensures ∙ by_number (goal.at.returns-in-1 c).Start d 1 c.in-1.is

pub returns-in-2 : goal.returns-in-2
unfolding arguments_fit buffer_fits call_of op
returns-in-2 c d e = c.read_fits.ensures ∙ by_number (goal.at.returns-in-2 c).Start d 2 c.in-2.is

pub returns-in-3 : goal.returns-in-3
unfolding arguments_fit call_of op
returns-in-3 c d e = rw (← e) at c.write_fits.ensures ∙ by_number (goal.at.returns-in-3 c).Start d 3 c.in-3.is

pub returns-in-4 : goal.returns-in-4
unfolding arguments_fit call_of op
returns-in-4 c d e = by_number (goal.at.returns-in-4 c).Start d 4 c.in-4.is

pub returns-in-5 : goal.returns-in-5
unfolding arguments_fit call_of op
returns-in-5 c d e = c.derive_fits.ensures ∙ by_number (goal.at.returns-in-5 c).Start d 5 c.in-5.is

pub returns-in-6 : goal.returns-in-6
unfolding arguments_fit call_of op scratch_fits
returns-in-6 c d e = by_number (goal.at.returns-in-6 c).Start d 6 c.in-6.is

pub returns-in-7 : goal.returns-in-7
unfolding arguments_fit call_of op scratch_fits
returns-in-7 c d e = by_number (goal.at.returns-in-7 c).Start d 7 c.in-7.is

pub returns-in-8 : goal.returns-in-8
unfolding arguments_fit call_of op
returns-in-8 c d e = by_number (goal.at.returns-in-8 c).Start d 8 c.in-8.is

pub returns-in-9 : goal.returns-in-9
unfolding arguments_fit call_of op
returns-in-9 c d e = by_number (goal.at.returns-in-9 c).Start d 9 c.in-9.is

pub returns-in-10 : goal.returns-in-10
unfolding arguments_fit call_of op
returns-in-10 c d e = by_number (goal.at.returns-in-10 c).Start d 10 c.in-10.is

pub returns-in-11 : goal.returns-in-11
unfolding arguments_fit call_of op
returns-in-11 c d e = by_number (goal.at.returns-in-11 c).Start d 11 c.in-11.is

pub returns-in-12 : goal.returns-in-12
unfolding arguments_fit call_of op
returns-in-12 c d e = by_number (goal.at.returns-in-12 c).Start d 12 c.in-12.is

pub returns-in-13 : goal.returns-in-13
unfolding arguments_fit call_of op
returns-in-13 c d e = ap (λ n. leb n 16) (sym e) ∙ by_number (goal.at.returns-in-13 c).Start d 13 c.in-13.is

pub returns-in-14 : goal.returns-in-14
unfolding arguments_fit buffer_fits call_of op
returns-in-14 c d e = by_number (goal.at.returns-in-14 c).Start d 14 c.in-14.is

pub returns-in-15 : goal.returns-in-15
unfolding arguments_fit call_of op
returns-in-15 c d e = by_number (goal.at.returns-in-15 c).Start d 15 c.in-15.is

pub returns-in-16 : goal.returns-in-16
unfolding arguments_fit call_of op
returns-in-16 c d e = by_number (goal.at.returns-in-16 c).Start d 16 c.in-16.is

pub returns-in_default : goal.returns-in_default
returns-in_default c d e =
    sym (unknown-fits c.args.req.number (call_of c.args.req d c.args.buffer c.args.scratch) c.in_default.in_default-own.rest)
