-- A run by what the code found in the cells: which of its refusals stops it, or what it stores.
use Prim.Native.Nat.{ℕ, ◌+◌, ◌-◌}
use mathlib.Core.Path.{◌≡◌, refl, sym, ap, ◌∙◌}
use mathlib.Core.Logic.{◌≢◌}
use mathlib.Core.Bool.{Bool, true, false, not}
use mathlib.Core.List.{List, [], ◌∷◌}
use lib.Dec.{leb, ltb}
use lib.ListN.{length, length-set, get_or, set}
use Rattle.rules.specs.Refusals.{◌when◌, first}
use Rattle.layout.specs.Layout as Layout
use Rattle.layout.specs.Rows.{flag_of, master_of, owner_of}
use Rattle.layout.specs.View.{is_process}
use Rattle.layout.proofs.Field.{field_in}
use Rattle.call_steps.specs.Tests.{ObjectSlot}
use Rattle.call_steps.specs.Run.{over, Target}
use Rattle.call_steps.proofs.Meeting.{stopped, goes_on}
use Rattle.call_steps.specs.Copies.{copied, Copied}
use Rattle.call_mail.specs.Runs.{message_slot, text_from, send_stop, placed_words, MessagePlaced, send_run, Moved}
use Rattle.call_mail.proofs.Copying.{length-copied}

-- ---- a message placed

pub placed-is : {b b₁ text : List ℕ} {i : ℕ} → Copied (length text) text 0 b (text_from i) b₁ → (w : List ℕ) (sum : ℕ)
    → MessagePlaced b w text i sum (set b₁ (Layout.LENGTH + i) (length text)) (placed_words w i sum)
placed-is {text = text} {i = i} c w sum =
    record { bytes = ap (λ b. set b (Layout.LENGTH + i) (length text)) c.is; words = refl }

module _ {b w text : List ℕ} {i sum : ℕ} {b' w' : List ℕ} (P : MessagePlaced b w text i sum b' w') where
  pub placed-bytes-length : length b' ≡ length b
  placed-bytes-length =
      ap length P.bytes
      ∙ length-set (copied (length text) text 0 b (text_from i)) (Layout.LENGTH + i) (length text)
      ∙ length-copied text 0 b (text_from i) (length text)

  pub placed-words-length : length w' ≡ length w
  placed-words-length = ap length P.words ∙ length-set w (Layout.SUM + i) sum

-- ---- messages moved down

pub moved-is : {b b₁ b₂ w w₁ : List ℕ} {i : ℕ} → Copied 48 b (text_from i + 16) b (text_from i) b₁
    → Copied 3 b₁ (Layout.LENGTH + i + 1) b₁ (Layout.LENGTH + i) b₂
    → Copied 3 w (Layout.SUM + i + 1) w (Layout.SUM + i) w₁ → Moved b w i b₂ w₁
moved-is {i = i} t n s = record {
  bytes = n.is ∙ ap (λ b. copied 3 b (Layout.LENGTH + i + 1) b (Layout.LENGTH + i)) t.is;
  words = s.is;
}

pub moved-words-length : {b w : List ℕ} {i : ℕ} {b' w' : List ℕ} → Moved b w i b' w' → length w' ≡ length w
moved-words-length {w = w} {i = i} M =
    ap length M.words ∙ length-copied w (Layout.SUM + i + 1) w (Layout.SUM + i) 3

-- ---- send

-- capability k is for the object in slot o, and p tells whether that is a process
pub record Sending (b l : List ℕ) (me k o : ℕ) (p : Bool) : Type 0 where
  pub caller : ObjectSlot me
  pub target : Target l k
  pub found : o ≡ owner_of l k
  pub process : p ≡ is_process (master_of l) (flag_of b) o

module _ {b l : List ℕ} {me k o : ℕ} {p : Bool} (S : Sending b l me k o p) where
  pub slot_of : ObjectSlot o
  slot_of = rw S.found S.target.slot

  process-is : {t : Bool} → p ≡ t → is_process (master_of l) (flag_of b) (owner_of l k) ≡ t
  process-is e = rw S.found at (sym S.process ∙ e)

  module _ (w : List ℕ) (sum : ℕ) where
    -- with its three tests as they came out, or as they stand
    send-stop : {f q z : Bool} → p ≡ f → ltb (get_or w (Layout.CASH + me) 0) sum ≡ q
        → leb 4 (get_or b (Layout.COUNT + o) 0) ≡ z
        → send_stop b l w me k sum ≡ first (8 when not f ∷ 9 when q ∷ 14 when z ∷ [])
    unfolding send_stop
    send-stop f q z =
        let s = S.target.slot in
        rw (
          process-is f,
          field_in 64 Layout.CASH w me S.caller.low S.caller.high,
          field_in 64 Layout.COUNT b (owner_of l k) s.low s.high,
          ← S.found,
          q,
          z,
        )

    module _ (text : List ℕ) where
      pub send-met : (n : ℕ) {f q z : Bool} → p ≡ f → ltb (get_or w (Layout.CASH + me) 0) sum ≡ q
          → leb 4 (get_or b (Layout.COUNT + o) 0) ≡ z → first (8 when not f ∷ 9 when q ∷ 14 when z ∷ []) ≡ n → n ≢ 0
          → over n b l w ≡ send_run b l w text me k sum
      unfolding send_run
      send-met n f q z e ne = stopped b l w _ n (send-stop f q z ∙ e) ne

      pub send-done : {left : ℕ} {b' w' : List ℕ}
          → MessagePlaced b (set w (Layout.CASH + me) left) text (message_slot o (get_or b (Layout.COUNT + o) 0)) sum b' w'
          → left ≡ get_or w (Layout.CASH + me) 0 - sum → p ≡ true
          → ltb (get_or w (Layout.CASH + me) 0) sum ≡ false → leb 4 (get_or b (Layout.COUNT + o) 0) ≡ false
          → over 0 (set (set b' (Layout.COUNT + o) (get_or b (Layout.COUNT + o) 0 + 1)) (Layout.WAITING + o) 0) l w'
          ≡ send_run b l w text me k sum
      unfolding send_run first ◌when◌
      send-done P e f q z =
          let s = slot_of in
          rw (
            P.bytes,
            P.words,
            e,
            ← field_in 64 Layout.CASH w me S.caller.low S.caller.high,
            ← field_in 64 Layout.COUNT b o s.low s.high,
            S.found,
          )
          (goes_on b l w _ (send-stop f q z))
