-- `call` is refused by 1, or is the kernel's step.
use mathlib.Core.Path.{refl, sym, ◌∙◌}
use mathlib.Core.Bool.{false≢true}
use Rattle.values.specs.declared.refusal.Refusal.TheVariants.{IllFormed}
use Rattle.layout.specs.WellFormed.{WellFormed}
use Rattle.call_steps.proofs.Replying.{refuses}
use Rattle.kernel_call.proofs.Calling.{calls-unsound, calls-step}
use Rattle.kernel_call.proofs.call.Goals as goal
use Rattle.kernel_call.proofs.call.Goals.{Else-not-check}

formed : (c : Else-not-check) → WellFormed c.args.bytes.now c.args.links.now c.args.words.now
formed c = c.check.ensures.sound c.if-not-check.false

pub returns-then-not-check : goal.returns-then-not-check
returns-then-not-check c =
    calls-unsound (λ f. false≢true (sym c.if-not-check.true ∙ c.check.ensures.complete f))
    (record { reply = refuses IllFormed; slices-are = refl })

pub step-requires : goal.step-requires
step-requires c = formed (goal.at.step-requires c).Else-not-check

pub returns : goal.returns
returns c = calls-step (formed (goal.at.returns c).Else-not-check) c.step.ensures
