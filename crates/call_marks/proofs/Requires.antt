-- What the code asks is so in a well-formed store, whatever the links of its trees. Beside lengths and slots, a window's
-- ends are in order, and the cash that a sum is moved to has room for it, since the money total stays.
use Prim.Native.Nat.{ℕ, ◌+◌, ◌≤◌}
use mathlib.Core.Path.{◌≡◌, ap}
use mathlib.Core.List.{List}
use native.Mathlib.Omega.{arith}
use Rattle.rules.specs.Limit as Limit
use Rattle.rules.specs.Store.{State, all_cash, money_in}
use Rattle.rules.specs.Valid.{Valid}
use Rattle.rules.specs.Update.{with_cash}
use Rattle.rules.specs.Changes.{earn, spend}
use Rattle.rules.proofs.Slots.{at_here, sum-at}
use Rattle.rules.proofs.Sound.{sound-of}
use Rattle.rules.proofs.Presenting as Rules
use Rattle.rules.proofs.Keeping.{sound-spend, total-spend, total-earn}
use Rattle.layout.specs.Rows.{flag_of, owner_of}
use Rattle.layout.specs.View.{view}
use Rattle.layout.specs.WellFormed.{Plain}
use Rattle.layout.proofs.Shown.{cash-here, set-yes}
use Rattle.layout.proofs.Asked.{fields}
use Rattle.call_steps.specs.Run.{Process, Held, Target}
use Rattle.call_steps.proofs.Holding.{target-of}
use Rattle.call_steps.proofs.Process.{is-process}
use Rattle.call_steps.proofs.Entering.{process-shown}
use Rattle.call_marks.specs.Runs.{spent_words, Affords, MarkAsks, LockAsks, ReviveAsks, InfoAsks}
use Rattle.call_marks.proofs.Targets.{target-process}
use Rattle.call_marks.proofs.Amounts.{spent-stored}

-- a process's cash is part of the total
cash-part : (s : State) (o : ℕ) → 1 ≤ o → o ≤ 64 → s.cash o ≤ money_in s
unfolding money_in all_cash
cash-part s o low high = omega (arith, sum-at 64 (λ (m : ℕ). m) s.cash o 0 low high)

-- a sum that is moved from cash that has it
moved-fits : (s : State) → Valid s → (me o n : ℕ) → Rules.Process s.object me → Rules.Process s.object o
    → 1 ≤ o → o ≤ 64 → n ≤ s.cash me → (spend s me n).cash o + n ≤ Limit.word
unfolding spend earn with_cash
moved-fits s val me o n m p low high h =
    let S = sound-of val.formed in
    let r : State = spend s me n in
    let here : (earn r o n).cash o ≡ r.cash o + n = at_here r.cash o (r.cash o + n) in
    omega (
      arith,
      val.total,
      total-spend S me m n h,
      total-earn (sound-spend S me m n) o p n,
      cash-part (earn r o n) o low high,
      here,
    )

revive-affords : {b l w : List ℕ} {me k : ℕ} → Plain b l w → Process b l me → Target l k
    → (sum : ℕ) → Affords b l w me k sum
revive-affords {b} {l} {w} {me} {k} f m T sum flag enough =
    let P : Process b l (owner_of l k) = target-process b l w k T (set-yes (flag_of b (owner_of l k)) flag) in
    let e : (view b l (spent_words w me sum)).cash (owner_of l k) ≡ (spend (view b l w) me sum).cash (owner_of l k) =
    ap (λ (s : State). s.cash (owner_of l k)) (spent-stored m w f.sized.words sum) in
    let fits = moved-fits (view b l w) f.valid me (owner_of l k) sum (process-shown b l w me m)
    (process-shown b l w (owner_of l k) P) P.low P.high (rw (cash-here b l w me (is-process m)) enough) in
    omega (arith, fits, e, cash-here b l (spent_words w me sum) (owner_of l k) (is-process P))

-- ---- call by call

module _ {b l w : List ℕ} {k : ℕ} (f : Plain b l w) (h : Held l k) where
  pub mark-asks : MarkAsks b l k
  mark-asks = record { bytes = f.sized.bytes; links = f.sized.links; target = target-of f h }

  pub lock-asks : LockAsks b l w k
  lock-asks = record { sized = f.sized; target = target-of f h }

  pub revive-asks : {me : ℕ} → Process b l me → (sum : ℕ) → ReviveAsks b l w me k sum
  revive-asks m sum = record {
    sized = f.sized;
    caller = record { low = m.low; high = m.high };
    target = target-of f h;
    affords = revive-affords f m (target-of f h) sum;
  }

  pub info-asks : InfoAsks w k
  info-asks = record {
    words = f.sized.words;
    low = h.low;
    high = h.high;
    ordered = ((fields f).caps k h.live).ordered;
  }
