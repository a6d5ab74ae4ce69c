-- `readable` is refused by the question's own refusal, then by 17.
use mathlib.Core.Path.{◌≡◌, sym, ap, ◌∙◌, subst}
use mathlib.Core.Bool.{Bool}
use Rattle.std.specs.Prelude.{Err, IfOk}
use Rattle.std.proofs.lemmas.Result.{err_from_is_err_and}
use Rattle.values.specs.Refusals.{code_of}
use Rattle.values.proofs.Numbers.{number-some}
use Rattle.product_drive.specs.Drive.{holds_repeat}
use Rattle.product_drive.specs.Picks.{told}
use Rattle.product_drive.proofs.Rows.{unread-asked, unread-length, unread-none}
use Rattle.product_drive.proofs.row.readable.Goals as goal
use Rattle.product_drive.proofs.row.readable.Goals.{After-holds_repeat}

pub returns-in_err-window : goal.returns-in_err-window
returns-in_err-window c =
    let a = c.args in
    let q = err_from_is_err_and _ c.from_residual.ensures.1 in
    let code = ap code_of c.in_err-window.was in
    record {
      code = ap code_of (q.1 ∙ ap Err q.2) ∙ sym code
          ∙ sym (unread-asked a.repeat a.answer (λ z. number-some c.in_err-window.field-0.0 (sym code ∙ z)));
      window = subst (λ r. IfOk r (λ window. window ≡ told a.answer)) (sym q.1) tt;
    }

-- the question's window is the one that is tested
holds : (c : After-holds_repeat) (t : Bool) → c.holds_repeat.result ≡ t → holds_repeat (told c.args.answer) c.args.repeat ≡ t
holds c t h = ap (λ v. holds_repeat (told v) c.args.repeat) c.in_ok-window.was ∙ sym c.holds_repeat.ensures ∙ h

pub returns-then-holds_repeat : goal.returns-then-holds_repeat
returns-then-holds_repeat c =
    let a = c.args in
    record {
      code = sym (unread-none a.repeat a.answer (ap code_of c.in_ok-window.was) (holds (goal.at.returns-then-holds_repeat c).After-holds_repeat _ c.if-holds_repeat.true));
      window = sym (ap told c.in_ok-window.was);
    }

pub returns-else-holds_repeat : goal.returns-else-holds_repeat
returns-else-holds_repeat c =
    let a = c.args in
    record {
      code = sym (unread-length a.repeat a.answer (ap code_of c.in_ok-window.was) (holds (goal.at.returns-else-holds_repeat c).After-holds_repeat _ c.if-holds_repeat.false));
      window = tt;
    }
