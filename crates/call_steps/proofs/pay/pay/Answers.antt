-- `pay` leaves the slices as `Pays` says.
use mathlib.Core.Path.{refl, sym, ◌∙◌}
use native.Mathlib.Omega.{arith}
use Rattle.call_steps.specs.Paying.{terminated_bytes}
use Rattle.call_steps.proofs.Paying.{house-room, pays-not, pays}
use Rattle.call_steps.proofs.pay.pay.Goals as goal

pub returns-then-below : goal.returns-then-below
unfolding terminated_bytes
returns-then-below c =
    let a = c.args in
    record {
      slices = pays-not a.bytes.now a.words.now a.me a.fee (sym c.below.ensures ∙ c.if-below.true);
      refusal = refl;
    }

pub overflow_add-words-2 : goal.overflow_add-words-2
overflow_add-words-2 c =
    let a = c.args in
    omega (
      arith,
      house-room a.bytes.now a.words.now a.me a.fee c.less-left.result.0 c.less-left.ensures
          (sym c.below.ensures ∙ c.if-below.false) c.requires.room,
    )

pub returns : goal.returns
returns c =
    let a = c.args in
    record {
      slices = pays a.bytes.now a.words.now a.me a.fee c.less-left.result.0 c.less-left.ensures
          (sym c.below.ensures ∙ c.if-below.false);
      refusal = tt;
    }
