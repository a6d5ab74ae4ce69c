-- From a request to the fee: refusals 2, 3 and 4 in the order in which the code tests them, and who the caller is.
use Prim.Native.Nat.{ℕ}
use mathlib.Core.Path.{◌≡◌, sym, ◌∙◌}
use mathlib.Core.Logic.{◌≢◌}
use mathlib.Core.Bool.{Bool, true, false, not, ◌||◌}
use mathlib.Core.List.{List}
use lib.Dec.{ltb}
use Rattle.rules.specs.Store.{State}
use Rattle.rules.specs.Valid.{Objects}
use Rattle.rules.specs.Rights.{fee_of}
use Rattle.rules.specs.Call.{Call}
use Rattle.rules.specs.Code as Code
use Rattle.rules.specs.Refusals.{◌when◌, first, in_range, caller, running, early}
use Rattle.rules.proofs.Tests.{all3}
use Rattle.rules.proofs.Presenting as Rules
use Rattle.rules.proofs.Ready.{payer, stopper}
use Rattle.layout.specs.Layout as Layout
use Rattle.layout.specs.Rows.{master_of, flag_of}
use Rattle.layout.specs.View.{is_process, view}
use Rattle.layout.specs.WellFormed.{Plain}
use Rattle.layout.proofs.Field.{field-low, field-high}
use Rattle.layout.proofs.Shown.{process-is, process-lives, process-flag, object-shown}
use Rattle.call_steps.specs.Run.{Process}
use Rattle.call_steps.proofs.Process.{is-process}

-- ---- 2, 3 and 4, in order

module _ (s : State) (c : Call) where
  abbrev poor : Bool
  poor = ltb (s.cash (caller s c)) (fee_of c.number)

  pub early-range : in_range c ≡ false → early s c ≡ Code.out_of_range
  unfolding early first ◌when◌
  early-range r = rw (r, first)

  module _ (r : in_range c ≡ true) where
    pub early-running : running s (caller s c) ≡ false → early s c ≡ Code.not_running
    unfolding early first ◌when◌
    early-running e = rw (r, e, first)

    module _ (e : running s (caller s c) ≡ true) where
      pub early-poor : poor ≡ true → early s c ≡ Code.cannot_pay
      unfolding early first ◌when◌
      early-poor p = rw (r, e, p, first)

      pub early-none : poor ≡ false → early s c ≡ 0
      unfolding early first ◌when◌
      early-none p = rw (r, e, p, first)

-- ---- the caller

module _ (b l w : List ℕ) where
  -- what the rules call a living process is one in the slices
  process-of : (o : ℕ) → Rules.Process (view b l w).object o → Process b l o
  process-of o p =
      let q : is_process (master_of l) (flag_of b) o ≡ true = sym (process-is b l w o) ∙ p.process in
      let alive : master_of l o ≢ 0 = process-lives (master_of l) (flag_of b) o q in
      record {
        low = field-low 64 Layout.MASTER l o alive;
        high = field-high 64 Layout.MASTER l o alive;
        live = alive;
        flag = process-flag (master_of l) (flag_of b) o q;
      }

  -- who runs is a living process
  pub running-process : (o : ℕ) → running (view b l w) o ≡ true → Process b l o
  unfolding running
  running-process o e =
      let s : State = view b l w in
      let f = all3 (s.object o).live (s.object o).process
      (not ((s.marks o).suspended || (s.marks o).waiting || (s.marks o).terminated)) e in
      process-of o (record { live = f.0; process = f.1 })

  -- and so the rules' living process, and their caller where 2, 3 and 4 are not met, or 4 is
  pub process-shown : (o : ℕ) → Process b l o → Rules.Process (view b l w).object o
  process-shown o P = record {
    live = object-shown b l w o P.live;
    process = process-is b l w o ∙ is-process P;
  }

  module _ (W : Plain b l w) (c : Call) where
    abbrev objects : Objects (view b l w).object
    objects = W.valid.formed.objects

    pub payer-process : early (view b l w) c ≡ 0 → Process b l (caller (view b l w) c)
    payer-process e = process-of (caller (view b l w) c) (payer (view b l w) c objects e).0

    pub stopper-process : early (view b l w) c ≡ Code.cannot_pay → Process b l (caller (view b l w) c)
    stopper-process e = process-of (caller (view b l w) c) (stopper (view b l w) c objects e)
