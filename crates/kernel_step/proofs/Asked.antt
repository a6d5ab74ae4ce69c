-- What the code of each call asks, by the call's number: its arguments are in range, and its capability is held.
use Prim.Native.Nat.{ℕ, ◌-◌, ◌≤◌}
use mathlib.Core.Path.{◌≡◌, refl, sym, ap, ◌∙◌}
use mathlib.Core.Bool.{true, not, ◌||◌, false≢true}
use mathlib.Core.List.{List}
use native.Mathlib.Omega.{arith}
use lib.Dec.{eqb, leb}
use lib.ListN.{length}
use borrow.Author.Tests.{eqb-true, leb-true}
use Rattle.rules.specs.Store.{Window}
use Rattle.rules.specs.Rights.{Op, make_obj, read, write, cap_info, derive_cap, delete_cap, rename_obj, withdraw}
use Rattle.rules.specs.Rights.{deposit, suspend, resume, apply_lock, send, receive, revive, op, presents}
use Rattle.rules.specs.Call.{Call}
use Rattle.rules.specs.Limit as Limit
use Rattle.rules.specs.Refusals.{name_fits, ordered, transfer_fits, buffer_fits, arguments_fit, in_range}
use Rattle.rules.proofs.Tests.{all2, all3}
use Rattle.layout.specs.Shape.{Shape}
use Rattle.layout.specs.WellFormed.{Plain}
use Rattle.layout.proofs.Plain.{plain}
use Rattle.call_steps.specs.Run.{Held}
use Rattle.call_steps.proofs.Fitting.{NoneTo, unknown-fits, transfer-ordered}
use Rattle.call_enter.specs.Begins.{Begins}
use Rattle.call_marks.specs.Runs.{MarkAsks, LockAsks, ReviveAsks, InfoAsks}
use Rattle.call_marks.proofs.Requires.{mark-asks, lock-asks, revive-asks, info-asks}
use Rattle.call_purse.specs.Calls.{Payable, Withdrawable}
use Rattle.call_purse.proofs.Ready.{payable, withdrawable}
use Rattle.call_transfer.specs.Runs.{ReadAsks, WriteAsks}
use Rattle.call_transfer.proofs.Requires.{read-asks, write-asks}
use Rattle.call_mail.specs.Runs.{SendAsks, ReceiveAsks}
use Rattle.call_mail.proofs.Meets.{send-asks, receive-asks}
use Rattle.call_make.specs.Runs as Make
use Rattle.call_make.proofs.Meets.{make-asks}
use Rattle.call_derive.specs.Runs.{DeriveAsks}
use Rattle.call_derive.proofs.Meets.{derive-asks}
use Rattle.call_delete.specs.Runs.{DeleteAsks}
use Rattle.call_delete.proofs.Meets.{delete-asks}
use Rattle.call_rename.specs.Runs.{RenameAsks}
use Rattle.call_rename.proofs.Meets.{rename-asks}
use Rattle.kernel_step.specs.Asks.{OwnAsks}

-- ---- where the own part begins

pub own-asks : {b l w : List ℕ} {c : Call} {me k : ℕ} → Shape l → Begins b l w c me k → OwnAsks b l w c me k
own-asks shape B = record {
  late = record {
    formed = record { sized = B.plain.sized; cells = B.plain.cells; shape = shape; valid = B.plain.valid };
    caller = B.process;
    range = B.range;
  };
  held = B.held;
}

-- ---- arguments in range

pub fits : (c : Call) (o : Op) → op c.number ≡ o → in_range c ≡ true → arguments_fit o c ≡ true
unfolding in_range
fits c o e r =
    ap (λ x. arguments_fit x c) (sym e)
    ∙ (all3 (name_fits c.caller) (not (presents (op c.number)) || name_fits c.presented.name)
    (arguments_fit (op c.number) c) r).2

pub short : (w : Window) → transfer_fits w ≡ true → w.end - w.start ≤ Limit.transfer
unfolding transfer_fits ordered
short w h = leb-true _ _ (all2 (leb w.start w.end) (leb (w.end - w.start) Limit.transfer) h).1

-- the last arm of the decision is never taken: the number is none of the sixteen
module _ {b l w : List ℕ} {c : Call} {me k : ℕ} (A : OwnAsks b l w c me k) where
  abbrev P : Plain b l w
  P = plain A.late.formed

  pub no_other : NoneTo c.number 16 → ⊥
  no_other h = false≢true (sym (unknown-fits c.number c h) ∙ fits c (op c.number) refl A.late.range)

  -- ---- call by call

  held : (o : Op) → op c.number ≡ o → presents o ≡ true → Held l k
  held o e p = A.held (ap presents e ∙ p)

  pub read_asked : (buffer : List ℕ) → length buffer ≡ c.buffer → op c.number ≡ read
      → ReadAsks b l w buffer k c.range.start c.range.end
  unfolding presents arguments_fit buffer_fits
  read_asked buffer long e =
      let f = all2 (transfer_fits c.range) (leb Limit.buffer c.buffer) (fits c read e A.late.range) in
      read-asks P (held read e refl) buffer (transfer-ordered c.range f.0)
      (short c.range f.0) (omega (arith, leb-true Limit.buffer c.buffer f.1))

  pub write-asked : op c.number ≡ write → WriteAsks b l w c.text k c.range.start c.range.end
  unfolding presents arguments_fit
  write-asked e =
      let f = all2 (transfer_fits c.range) (eqb (length c.text) (c.range.end - c.range.start))
      (fits c write e A.late.range) in
      write-asks P (held write e refl) c.text (transfer-ordered c.range f.0)
      (eqb-true _ _ f.1)

  pub info-asked : op c.number ≡ cap_info → InfoAsks w k
  unfolding presents
  info-asked e = info-asks P (held cap_info e refl)

  pub withdraw-asked : op c.number ≡ withdraw → Withdrawable l w me k c.sum
  unfolding presents
  withdraw-asked e = withdrawable b l w P me k A.late.caller (held withdraw e refl) c.sum

  pub deposit-asked : op c.number ≡ deposit → Payable l w me k
  unfolding presents
  deposit-asked e = payable b l w P me k A.late.caller (held deposit e refl)

  pub suspend-asked : op c.number ≡ suspend → MarkAsks b l k
  unfolding presents
  suspend-asked e = mark-asks P (held suspend e refl)

  pub resume-asked : op c.number ≡ resume → MarkAsks b l k
  unfolding presents
  resume-asked e = mark-asks P (held resume e refl)

  pub lock-asked : op c.number ≡ apply_lock → LockAsks b l w k
  unfolding presents
  lock-asked e = lock-asks P (held apply_lock e refl)

  pub send-short : op c.number ≡ send → length c.text ≤ Limit.message
  unfolding arguments_fit
  send-short e = leb-true _ _ (fits c send e A.late.range)

  pub send-asked : op c.number ≡ send → SendAsks b l w c.text me k
  unfolding presents
  send-asked e = send-asks P c.text A.late.caller (held send e refl) (send-short e)

  pub receive-asked : (buffer : List ℕ) → length buffer ≡ c.buffer → op c.number ≡ receive
      → ReceiveAsks b w buffer me
  unfolding arguments_fit buffer_fits
  receive-asked buffer long e = receive-asks P buffer A.late.caller
      (omega (arith, leb-true Limit.buffer c.buffer (fits c receive e A.late.range)))

  pub revive-asked : op c.number ≡ revive → ReviveAsks b l w me k c.sum
  unfolding presents
  revive-asked e = revive-asks P (held revive e refl) A.late.caller c.sum

  pub make-asked : op c.number ≡ make_obj → Make.MakeAsks b l w c.name c.size c.flag c.rights
  make-asked e = make-asks A.late.formed c e A.late.range

  pub derive-asked : op c.number ≡ derive_cap → DeriveAsks b l w k c.rights c.last_day
  unfolding presents arguments_fit
  derive-asked e =
      let f = all3 (leb c.rights Limit.rights) (ordered c.range) (leb c.last_day Limit.day)
      (fits c derive_cap e A.late.range) in
      derive-asks A.late.formed (held derive_cap e refl) (leb-true _ _ f.0) (leb-true _ _ f.2)

  pub delete-asked : op c.number ≡ delete_cap → DeleteAsks b l w k
  unfolding presents
  delete-asked e = delete-asks A.late.formed (held delete_cap e refl)

  pub rename-asked : op c.number ≡ rename_obj → RenameAsks b l w k
  unfolding presents
  rename-asked e = rename-asks A.late.formed (held rename_obj e refl)
