-- The fee, from the slices to the rules: what paying leaves is the rules' state, as sound as before, and its sum fits a word.
use Prim.Native.Nat.{ℕ, suc, ◌+◌, ◌-◌, ◌≤◌}
use mathlib.Core.Path.{◌≡◌, refl, sym, ap, ◌∙◌, subst}
use mathlib.Core.Bool.{Bool, true, not, not-not}
use mathlib.Core.List.{List, [], ◌∷◌}
use native.Mathlib.Omega.{arith}
use lib.Dec.{ltb}
use lib.ListN.{get_or}
use Rattle.rules.specs.Slots.{at}
use Rattle.rules.specs.Store.{State, money_in}
use Rattle.rules.specs.Valid.{Valid}
use Rattle.rules.specs.Rights.{fee_of}
use Rattle.rules.specs.Call.{Call}
use Rattle.rules.specs.Limit as Limit
use Rattle.rules.specs.Refusals.{caller, early}
use Rattle.rules.specs.Update.{with_house, with_cash}
use Rattle.rules.specs.Changes.{spend, to_house}
use Rattle.rules.specs.Rule.{paid}
use Rattle.rules.proofs.Sound.{sound-of}
use Rattle.rules.proofs.Keeping.{keep-fee, total-spend}
use Rattle.rules.proofs.Ready.{payer}
use Rattle.layout.specs.Layout as Layout
use Rattle.layout.specs.Rows.{field, cash_of, master_of, flag_of}
use Rattle.layout.specs.View.{is_process, view}
use Rattle.layout.specs.WellFormed.{Sized, Plain}
use Rattle.rules.proofs.Slots.{at_here, at-else}
use Rattle.layout.proofs.Field.{at-is, field_in}
use Rattle.layout.proofs.Puts.{Put, put, puts, Within, beside, length-puts, field_puts, field-kept, head_puts}
use Rattle.layout.proofs.Shown.{cash-here}
use Rattle.layout.proofs.Frame.{state-is, day-same, object-same, bytes_same, lock-same, marks-same, box-same, cap-same}
use Rattle.layout.proofs.Frame.{money-same, cash-same-at}
use Rattle.call_steps.specs.Run.{Process}
use Rattle.call_steps.specs.Paying.{paid_words, CanPay}
use Rattle.call_steps.proofs.Process.{is-process}
use Rattle.call_steps.proofs.Entering.{process-shown, payer-process}

module _ (b l w : List ℕ) (me : ℕ) (P : Process b l me) where
  process : is_process (master_of l) (flag_of b) me ≡ true
  process = is-process P

  pub cash-is : (view b l w).cash me ≡ get_or w (Layout.CASH + me) 0
  cash-is = cash-here b l w me process ∙ field_in 64 Layout.CASH w me P.low P.high

  -- the test of `pay`, r, is that of refusal 4
  pub poor-is : (fee : ℕ) (r : Bool) → r ≡ not (ltb (get_or w (Layout.CASH + me) 0) fee)
      → ltb ((view b l w).cash me) fee ≡ not r
  poor-is fee r e = rw (cash-is, e) (sym (not-not (ltb (get_or w (Layout.CASH + me) 0) fee)))

  module _ (Z : Sized b l w) (fee : ℕ) where
    abbrev stores : List Put
    stores =
        put 0 Layout.HOUSE 0 (get_or w Layout.HOUSE 0 + fee)
        ∷ put 64 Layout.CASH me (get_or w (Layout.CASH + me) 0 - fee)
        ∷ []

    abbrev after : List ℕ
    after = puts stores w

    within : Within stores
    within = (omega arith, (P.high, tt))

    kept : (n off : ℕ) → beside (suc n) off stores ≡ true → field n off after ≡ field n off w
    kept n off t = field-kept n off w stores t within

    cash-row : cash_of after ≡ at (cash_of w) me (get_or w (Layout.CASH + me) 0 - fee)
    cash-row = field_puts 64 Layout.CASH w (omega (arith, Z.words)) stores refl within (tt, (P.low, tt))

    house-paid : (view b l after).house ≡ (view b l w).house + fee
    unfolding view
    house-paid = head_puts Layout.HOUSE w (omega (arith, Z.words)) stores refl within

    cash-paid : (view b l after).cash ≡ at (view b l w).cash me ((view b l w).cash me - fee)
    cash-paid = at-is (view b l w).cash (view b l after).cash me ((view b l w).cash me - fee)
        (cash-here b l after me process
        ∙ (λ k. cash-row k me) ∙ at_here (cash_of w) me _ ∙ ap (λ x. x - fee) (sym cash-is))
        (λ j ne. cash-same-at b l w b l after j refl refl ((λ k. cash-row k j) ∙ at-else (cash_of w) me _ j ne))

    pub fee-view : view b l (paid_words w me fee) ≡ to_house (spend (view b l w) me fee) fee
    unfolding paid_words to_house spend with_house with_cash
    fee-view = state-is (view b l after) (to_house (spend (view b l w) me fee) fee)
        house-paid
        (day-same b l w b l after refl)
        (object-same b l w b l after refl refl refl refl refl)
        (bytes_same b l w b l after refl refl refl refl refl)
        (lock-same b l w b l after refl refl (kept 64 Layout.LOCK1 refl) (kept 64 Layout.LOCK2 refl))
        cash-paid
        (marks-same b l w b l after refl refl refl refl refl)
        (box-same b l w b l after refl refl refl refl (kept 259 Layout.SUM refl) refl)
        (cap-same b l w b l after refl refl (kept 512 Layout.P1 refl) (kept 512 Layout.P2 refl)
        (kept 512 Layout.START refl) (kept 512 Layout.END refl) refl refl)
        (money-same b l w b l after refl (kept 512 Layout.MONEY refl))

    fee-sized : Sized b l (paid_words w me fee)
    unfolding paid_words
    fee-sized = record { bytes = Z.bytes; links = Z.links; words = length-puts stores w ∙ Z.words }

-- ---- of a store as it is entered

module _ (b l w : List ℕ) (W : Plain b l w) where
  abbrev s : State
  s = view b l w

  -- the cash and the house are parts of the money total
  house-below : (me n : ℕ) → s.house ≤ money_in (spend s me n)
  unfolding money_in spend with_cash
  house-below me n = omega arith

  pub fee-room : (me : ℕ) → Process b l me
      → get_or w (Layout.CASH + me) 0 + get_or w Layout.HOUSE 0 ≤ Limit.word
  unfolding view
  fee-room me P =
      let p = process-shown b l w me P in
      let n : ℕ = get_or w (Layout.CASH + me) 0 in
      let t = total-spend (sound-of W.valid.formed) me p n (omega (arith, cash-is b l w me P)) in
      omega (arith, house-below me n, t, W.valid.total)

  pub can-pay : (me : ℕ) → Process b l me → CanPay b w me
  can-pay me P = record {
    bytes = W.sized.bytes;
    words = W.sized.words;
    low = P.low;
    high = P.high;
    room = fee-room me P;
  }

  pub fee-plain : (me fee : ℕ) → Process b l me → fee ≤ s.cash me → Plain b l (paid_words w me fee)
  unfolding to_house spend with_house with_cash
  fee-plain me fee P h =
      let K = keep-fee s W.valid.formed me (process-shown b l w me P) fee h in
      record {
        sized = fee-sized b l w me P W.sized fee;
        cells = W.cells;
        blocks = W.blocks;
        valid = subst Valid (sym (fee-view b l w me P W.sized fee))
            (record { formed = K.formed; total = omega (arith, K.total, W.valid.total); day = W.valid.day });
      }

  -- ---- of a call that 2, 3 and 4 do not refuse

  module _ (c : Call) (e : early s c ≡ 0) where
    abbrev paid_with : List ℕ
    paid_with = paid_words w (caller s c) (fee_of c.number)

    pub paid-view : view b l paid_with ≡ paid s c
    unfolding paid
    paid-view = fee-view b l w (caller s c) (payer-process b l w W c e) W.sized (fee_of c.number)

    pub paid-plain : Plain b l paid_with
    paid-plain = fee-plain (caller s c) (fee_of c.number) (payer-process b l w W c e)
        (payer s c W.valid.formed.objects e).1
