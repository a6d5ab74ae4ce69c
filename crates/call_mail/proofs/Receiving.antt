-- The run of receive by what the code found in the cells; and the buffer, of which the front is the oldest message.
use Prim.Native.Nat.{ℕ, ◌+◌, ◌-◌, ◌*◌, ◌≤◌}
use mathlib.Core.Path.{◌≡◌, refl, sym, ap, ◌∙◌, subst}
use mathlib.Core.Logic.{◌≢◌}
use mathlib.Core.List.{List, ◌++◌}
use native.Mathlib.Omega.{arith}
use lib.ListN.{length, get_or, set, take, drop, length-drop, take-append-drop}
use lib.Seq.{length-take-le, get_or-take, get_or-drop, ext_get_or}
use borrow.Author.Tests.{eq-eqb, ne_eqb}
use Rattle.rules.specs.Refusals.{◌when◌, first}
use Rattle.layout.specs.Layout as Layout
use Rattle.layout.specs.Rows.{count_of, length_of, text_in, cash_of, sum_of}
use Rattle.layout.proofs.Field.{field_in}
use Rattle.call_steps.specs.Request.{Reply}
use Rattle.call_steps.specs.Run.{over, handed_over, overlay}
use Rattle.call_steps.specs.Replies.{HandsOver, Fills}
use Rattle.call_steps.proofs.Meeting.{stopped, goes_on}
use Rattle.call_steps.proofs.Replying.{fills-done}
use Rattle.call_steps.specs.Copies.{Copied}
use Rattle.call_mail.specs.Runs.{text_from, oldest, Moved, receive_stop, receive_run, ReceiveAsks}
use Rattle.call_mail.proofs.Copying.{copied-length, copied-in, copied-out}
use Rattle.call_mail.proofs.Boxes.{text-is}

-- ---- the buffer, with n bytes of message i at its front

module _ {n : ℕ} {b buffer buffer' : List ℕ} {i : ℕ} (c : Copied n b (text_from i) buffer 0 buffer')
    (z : length b ≡ Layout.BYTES) (room : 256 ≤ length buffer) (high : i ≤ 259) (short : n ≤ 16) where
  front_length : length (take n buffer') ≡ n
  front_length = length-take-le n buffer' (omega (arith, copied-length c))

  front-is : take n buffer' ≡ take n (drop (i * 16) (text_in b))
  front-is = sym (text-is b z i n high short (take n buffer') front_length (λ j p.
      let front : 0 + j ≡ j = omega arith in
      sym (get_or-take n buffer' j 0 p
      ∙ (λ k. get_or (c.is k) (sym front k) 0)
      ∙ copied-in b (text_from i) buffer 0 n j (omega arith) p)))

  rest-is : drop n buffer' ≡ drop n buffer
  rest-is = ext_get_or 0 (drop n buffer') (drop n buffer)
      (rw (length-drop n buffer', length-drop n buffer, copied-length c) refl)
      (λ j p. get_or-drop n buffer' j 0
      ∙ ap (λ d. get_or d (n + j) 0) c.is
      ∙ copied-out b (text_from i) buffer 0 n (n + j) (λ m q. omega arith)
      ∙ sym (get_or-drop n buffer j 0))

  overlaid : buffer' ≡ overlay (take n buffer') buffer
  unfolding overlay
  overlaid =
      sym (take-append-drop n buffer')
      ∙ ap (λ r. take n buffer' ++ r) (rest-is ∙ ap (λ k. drop k buffer) (sym front_length))

-- ---- the run

module _ {b w buffer : List ℕ} {me : ℕ} (A : ReceiveAsks b w buffer me) where
  count-in : count_of b me ≡ get_or b (Layout.COUNT + me) 0
  count-in = field_in 64 Layout.COUNT b me A.caller.low A.caller.high

  cash-in : cash_of w me ≡ get_or w (Layout.CASH + me) 0
  cash-in = field_in 64 Layout.CASH w me A.caller.low A.caller.high

  length-in : length_of b (oldest me) ≡ get_or b (Layout.LENGTH + oldest me) 0
  length-in = field_in 259 Layout.LENGTH b (oldest me) (omega (arith, A.caller.low)) (omega (arith, A.caller.high))

  sum-in : sum_of w (oldest me) ≡ get_or w (Layout.SUM + oldest me) 0
  sum-in = field_in 259 Layout.SUM w (oldest me) (omega (arith, A.caller.low)) (omega (arith, A.caller.high))

  module _ (some : get_or b (Layout.COUNT + me) 0 ≢ 0) where
    pub oldest-short : get_or b (Layout.LENGTH + oldest me) 0 ≤ 16
    oldest-short = rw length-in at (A.short (λ e. some (sym count-in ∙ e)))

    pub oldest-fits : get_or w (Layout.CASH + me) 0 + get_or w (Layout.SUM + oldest me) 0 ≤ 4294967295
    oldest-fits = rw (cash-in, sum-in) at (A.fits (λ e. some (sym count-in ∙ e)))

  pub receive-met : get_or b (Layout.COUNT + me) 0 ≡ 0 → (l : List ℕ) → over 15 b l w ≡ receive_run b l w me
  unfolding receive_run receive_stop first ◌when◌
  receive-met e l = stopped b l w _ 15 (rw (eq-eqb (count_of b me) 0 (count-in ∙ e)) refl) (omega arith)

  pub receive-done : {buffer' b' w' : List ℕ} → get_or b (Layout.COUNT + me) 0 ≢ 0
      → Copied (get_or b (Layout.LENGTH + oldest me) 0) b (text_from (oldest me)) buffer 0 buffer'
      → Moved b (set w (Layout.CASH + me) (get_or w (Layout.CASH + me) 0 + get_or w (Layout.SUM + oldest me) 0)) (oldest me)
      b' w'
      → {r : Reply} → HandsOver (get_or w (Layout.SUM + oldest me) 0) (get_or b (Layout.LENGTH + oldest me) 0) r
      → (l : List ℕ) → Fills r (set b' (Layout.COUNT + me) (get_or b (Layout.COUNT + me) 0 - 1)) l w' buffer buffer'
      (receive_run b l w me)
  unfolding receive_run receive_stop first ◌when◌
  receive-done {buffer'} {b'} {w'} some c M {r} H l =
      let n : ℕ = get_or b (Layout.LENGTH + oldest me) 0 in
      let sum : ℕ = get_or w (Layout.SUM + oldest me) 0 in
      let high : oldest me ≤ 259 = omega (arith, A.caller.high) in
      let short = oldest-short some in
      fills-done buffer (take n buffer') buffer'
      (subst (λ i. HandsOver sum i r) (sym (front_length c A.bytes A.room high short)) H)
      (overlaid c A.bytes A.room high short)
      (ap (λ t. handed_over sum t (set b' (Layout.COUNT + me) (get_or b (Layout.COUNT + me) 0 - 1)) l w')
      (front-is c A.bytes A.room high short)
      ∙ rw (M.bytes, M.words, ← length-in, ← sum-in, ← cash-in, ← count-in)
      (goes_on b l w _ (rw (ne_eqb (count_of b me) 0 (λ e. some (sym count-in ∙ e))) refl)))
