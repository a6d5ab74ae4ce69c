-- The exact runs are what the rules give: the call's own part, then the whole call.
use Prim.Native.Nat.{ℕ}
use mathlib.Core.Path.{◌≡◌, refl, ap, ◌∙◌}
use mathlib.Core.Bool.{false≢true}
use mathlib.Core.List.{List}
use Rattle.rules.specs.Rights.{Op, make_obj, read, write, cap_info, derive_cap, delete_cap, rename_obj, withdraw}
use Rattle.rules.specs.Rights.{deposit, suspend, resume, apply_lock, send, receive, wait, revive, unknown}
use Rattle.rules.specs.Rights.{op, presents}
use Rattle.rules.specs.Call.{Call}
use Rattle.rules.specs.Password.{presented}
use Rattle.rules.specs.Refusals.{arguments_fit}
use Rattle.rules.specs.Demand.{Words}
use Rattle.layout.specs.View.{view}
use Rattle.layout.specs.Shape.{Shape}
use Rattle.layout.specs.WellFormed.{WellFormed, Plain}
use Rattle.layout.proofs.Plain.{plain}
use Rattle.call_steps.specs.Run.{Meets, MeetsPlain}
use Rattle.call_enter.specs.Begins.{Begins}
use Rattle.call_enter.proofs.Meeting.{MeetsRule}
use Rattle.call_enter.proofs.Meeting as Entering
use Rattle.call_day.proofs.Meets.{day-meets}
use Rattle.call_marks.proofs.Meets.{suspend-meets, resume-meets, wait-meets, apply-lock-meets, revive-meets, cap-info-meets}
use Rattle.call_purse.proofs.Meeting.{withdraw-meets, deposit-meets}
use Rattle.call_transfer.proofs.Meets.{read_meets, write_meets}
use Rattle.call_mail.proofs.Meets.{send-meets, receive-meets}
use Rattle.call_make.proofs.Meets.{arguments-of, make_meets}
use Rattle.call_derive.proofs.Meets.{derive-meets}
use Rattle.call_delete.proofs.Meets.{delete-meets}
use Rattle.call_rename.proofs.Meets.{rename-meets}
use Rattle.kernel_step.specs.Own.{own_run}
use Rattle.kernel_step.specs.Asks.{OwnAsks}
use Rattle.kernel_step.specs.Run.{step_run}
use Rattle.kernel_step.proofs.Asked.{own-asks, fits, write-asked, send-short}
use Rattle.kernel_step.proofs.Shaping.{shape-kept}
use Rattle.kernel_step.proofs.Choosing.{run_by}

-- ---- the call's own part

module _ {b l w : List ℕ} {c : Call} {me k : ℕ} (shape : Shape l) (B : Begins b l w c me k) where
  abbrev A : OwnAsks b l w c me k
  A = own-asks shape B

  abbrev W : WellFormed b l w
  W = A.late.formed

  abbrev P : Plain b l w
  P = plain W

  abbrev Met : Op → Type 0
  Met o = Meets (view b l w) c me k o (own_run b l w c me k o)

  -- the calls that write no link
  kept : {o : Op} → MeetsPlain l (view b l w) c me k o (own_run b l w c me k o) → Met o
  kept m = shape-kept W.shape m

  own-met : (o : Op) → op c.number ≡ o → Met o
  unfolding own_run presents arguments_fit
  own-met make_obj e = make_meets W c me k (arguments-of c e A.late.range) e
  own-met read e = kept (read_meets P c me k (A.held (ap presents e)) e)
  own-met write e =
      let a = write-asked A e in
      kept (write_meets P c me k (A.held (ap presents e)) a.ordered a.long e)
  own-met cap_info e = kept (cap-info-meets P c me k (A.held (ap presents e)) e)
  own-met derive_cap e = derive-meets W c me k (A.held (ap presents e)) e
  own-met delete_cap e = delete-meets W c me k (A.held (ap presents e)) e
  own-met rename_obj e = rename-meets W c me k (A.held (ap presents e)) e B.who
      (B.found (ap presents e) ∙ ap (λ i. presented (view b l w) i c.presented) B.who)
  own-met withdraw e = kept (withdraw-meets b l w P me k A.late.caller (A.held (ap presents e)) c c.sum e refl)
  own-met deposit e = kept (deposit-meets b l w P me k A.late.caller (A.held (ap presents e)) c c.sum e refl)
  own-met suspend e = kept (suspend-meets P c me k (A.held (ap presents e)) e)
  own-met resume e = kept (resume-meets P c me k (A.held (ap presents e)) e)
  own-met apply_lock e = kept (apply-lock-meets P c me k (A.held (ap presents e)) e)
  own-met send e = kept (send-meets P c me k A.late.caller (A.held (ap presents e)) (send-short A e) e)
  own-met receive e = kept (receive-meets P c me k A.late.caller e)
  own-met wait e = kept (wait-meets P c me k A.late.caller e)
  own-met revive e = kept (revive-meets P c me k A.late.caller (A.held (ap presents e)) e)
  own-met unknown e = absurd (false≢true (fits c unknown e A.late.range))

  pub own_meets : Met (op c.number)
  own_meets = own-met (op c.number) refl

-- ---- the whole call

pub step-meets : {b l w : List ℕ} {c : Call} → WellFormed b l w → Words c → MeetsRule Shape (view b l w) c (step_run b l w c)
step-meets {b} {l} {w} {c} f words = run_by b l w c (MeetsRule Shape (view b l w) c) (day-meets f c words)
    (λ p. Entering.step-meets Shape own_run (plain f) f.shape words p (λ b w me k B. own_meets f.shape B))
