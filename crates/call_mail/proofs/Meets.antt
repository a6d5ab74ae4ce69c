-- Each call's run is what the rules give of its own part: 01, "send" and "receive" of "What each call refuses, in
-- order".
use Prim.Native.Nat.{ℕ, suc, ◌+◌, ◌-◌, ◌<◌, ◌≤◌}
use mathlib.Core.Path.{◌≡◌, refl, sym, ap, ◌∙◌}
use mathlib.Core.Logic.{◌≢◌}
use mathlib.Core.Bool.{Bool, true, false, not}
use mathlib.Core.List.{List, [], ◌∷◌, ◌++◌}
use native.Mathlib.Omega.{arith}
use lib.Dec.{eqb, leb, ltb}
use lib.ListN.{length}
use borrow.Author.Tests.{leb-false, eq-eqb}
use Rattle.rules.specs.Slots.{at}
use Rattle.rules.specs.Store.{Message, State, money_in, all_cash, all_boxes, sums_in}
use Rattle.rules.specs.Rights.{send, receive, op}
use Rattle.rules.specs.Call.{Call, done, hands_over}
use Rattle.rules.specs.Refusals.{◌when◌, first}
use Rattle.rules.specs.Update.{with_cash, with_marks, with_box}
use Rattle.rules.specs.Changes.{earn, spend, set_waiting}
use Rattle.rules.specs.Calls.{refuses, does, send_refuses, send_does, message, receive_refuses, receive_does}
use Rattle.rules.proofs.Slots.{sum-at}
use Rattle.rules.proofs.Tests.{by_bool}
use Rattle.layout.specs.Rows.{flag_of, count_of, length_of, text_in, master_of, owner_of, cash_of, sum_of}
use Rattle.layout.specs.View.{is_process, messages, view}
use Rattle.layout.specs.WellFormed.{Plain}
use Rattle.layout.proofs.Shown.{process-is, process-lives, process-flag, cap-object, cash-here, box-here}
use Rattle.layout.proofs.Lengths.{box-length}
use Rattle.call_steps.specs.Run.{Process, Held, MeetsPlain, over, handed_over}
use Rattle.call_steps.proofs.Process.{is-process}
use Rattle.call_steps.proofs.Meeting.{takes, DoesPlain, plain-settled}
use Rattle.call_steps.proofs.Holding.{target-of}
use Rattle.call_mail.specs.Runs.{message_slot, SendAsks, send_stop, sent_bytes, sent_words, send_run}
use Rattle.call_mail.specs.Runs.{oldest, oldest_bytes, received_bytes, received_words, ReceiveAsks, receive_stop}
use Rattle.call_mail.specs.Runs.{receive_run}
use Rattle.call_mail.proofs.Boxed.{boxed-view, boxed-cells}
use Rattle.call_mail.proofs.Sent.{sent-boxed, sent-cash, sent-marks, sent-box, sent-awake, sent-sized}
use Rattle.call_mail.proofs.Received.{received-boxed, received-cash, received-marks, received-box, received-waits}
use Rattle.call_mail.proofs.Received.{received-sized}

-- a send that none of its three tests stops
unstopped : (p q z : Bool) → first (8 when not p ∷ 9 when q ∷ 14 when z ∷ []) ≡ 0 → (p ≡ true) × (z ≡ false)
unfolding first ◌when◌
unstopped true false false e = (refl, refl)
unstopped true false true e = absurd (omega arith)
unstopped true true z e = absurd (omega arith)
unstopped false q z e = absurd (omega arith)

-- a receive that its test does not stop
opened : (n : ℕ) → first (15 when eqb n 0 ∷ []) ≡ 0 → n ≢ 0
unfolding first ◌when◌
opened n e z =
    let t : first (15 when eqb n 0 ∷ []) ≡ 15 = rw (eq-eqb n 0 z) refl in
    omega arith

module _ {b l w : List ℕ} (f : Plain b l w) where
  pub send-asks : {me k : ℕ} (text : List ℕ) → Process b l me → Held l k → length text ≤ 16
      → SendAsks b l w text me k
  send-asks text m h short = record {
    sized = f.sized;
    caller = record { low = m.low; high = m.high };
    target = target-of f h;
    short = short;
  }

  -- the caller's cash and the sums in its box are parts of the money total
  receive-fits : {me : ℕ} → Process b l me → (n : ℕ) → count_of b me ≡ suc n
      → cash_of w me + sum_of w (oldest me) ≤ 4294967295
  unfolding money_in all_cash all_boxes sums_in messages
  receive-fits {me} m n e =
      let p = is-process m in
      let box : (view b l w).box me ≡ messages (suc n) (length_of b) (sum_of w) (text_in b) (oldest me) =
      box-here b l w me p ∙ ap (λ k. messages k (length_of b) (sum_of w) (text_in b) (oldest me)) e in
      let part : sum_of w (oldest me) ≤ sums_in ((view b l w).box me) = rw box (omega arith) in
      omega (
        arith,
        f.valid.total,
        part,
        cash-here b l w me p,
        sum-at 64 (λ (x : ℕ). x) (view b l w).cash me 0 m.low m.high,
        sum-at 64 sums_in (view b l w).box me [] m.low m.high,
      )

  pub receive-asks : {me : ℕ} (buffer : List ℕ) → Process b l me → 256 ≤ length buffer → ReceiveAsks b w buffer me
  receive-asks {me} buffer m room =
      let p = is-process m in
      let first : message_slot me 0 ≡ oldest me = omega arith in
      record {
        bytes = f.sized.bytes;
        words = f.sized.words;
        room = room;
        caller = record { low = m.low; high = m.high };
        short = λ some. rw first at (f.cells.length me 0 p (omega arith));
        fits = λ some. receive-fits m (count_of b me - 1) (omega arith);
      }

  module _ (c : Call) (me k : ℕ) where
    abbrev s : State
    s = view b l w

    abbrev o : ℕ
    o = owner_of l k

    -- ---- send

    send-stop : Process b l me → send_stop b l w me k c.sum ≡ first (send_refuses s c me k)
    unfolding send_stop send_refuses first ◌when◌
    send-stop m =
        let cash = cash-here b l w me (is-process m) in
        by_bool (is_process (master_of l) (flag_of b) o)
        (λ e. rw (
          cap-object b l w k,
          process-is b l w o,
          cash,
          box-length b l w o e,
        ))
        (λ e. rw (cap-object b l w k, process-is b l w o, e))

    -- the state after a message to the object in slot i
    abbrev sent : ℕ → State
    sent i = set_waiting (with_box (spend s me c.sum) (at s.box i (s.box i ++ message s c me k ∷ []))) i false

    module _ (m : Process b l me) (P : Process b l o) (room : count_of b o < 4) (short : length c.text ≤ 16) where
      abbrev b' : List ℕ
      b' = sent_bytes b o c.text

      abbrev w' : List ℕ
      w' = sent_words w me (message_slot o (count_of b o)) c.sum

      shows : view b' l w' ≡ sent o
      unfolding set_waiting with_box with_marks with_cash spend message
      shows =
          let Z = f.sized in
          let C = f.cells in
          boxed-view (sent-boxed b l w Z C c.text short me o c.sum m P room) l C _ _ _
          (sent-cash b l w Z C c.text short me o c.sum m P room)
          (sent-marks b l w Z C c.text short me o c.sum m P room)
          (sent-box b l w Z C c.text short me o c.sum m P room)

      send-does : DoesPlain l s c me k send (over 0 b' l w')
      unfolding over done does send_does
      send-does =
          let Z = f.sized in
          let C = f.cells in
          record {
            rules = ap (λ i. done (sent i)) (cap-object b l w k) ∙ ap done (sym shows);
            sized = sent-sized b l w Z C c.text short me o c.sum m P room;
            cells = boxed-cells (sent-boxed b l w Z C c.text short me o c.sum m P room) l C
                (sent-awake b l w Z C c.text short me o c.sum m P room);
            links = refl;
          }

    pub send-meets : Process b l me → Held l k → length c.text ≤ 16 → op c.number ≡ send
        → MeetsPlain l s c me k send (send_run b l w c.text me k c.sum)
    unfolding takes refuses send_run send_stop
    send-meets m h short e =
        let T = target-of f h in
        plain-settled b l w c me k send (rw e refl) f (send_stop b l w me k c.sum) _ (send-stop m) (λ z.
        let u = unstopped (is_process (master_of l) (flag_of b) o) (ltb (cash_of w me) c.sum) (leb 4 (count_of b o)) z in
        let P : Process b l o = record {
          low = T.slot.low;
          high = T.slot.high;
          live = process-lives (master_of l) (flag_of b) o u.0;
          flag = process-flag (master_of l) (flag_of b) o u.0;
        } in
        send-does m P (leb-false 4 (count_of b o) u.1) short)

    -- ---- receive

    receive-stop : Process b l me → receive_stop b me ≡ first (receive_refuses s c me k)
    unfolding receive_stop receive_refuses
    receive-stop m = rw (box-length b l w me (is-process m))

    -- the state after the oldest message, where these are the other ones
    abbrev received : List Message → State
    received rest = earn (with_box s (at s.box me rest)) me (sum_of w (oldest me))

    module _ (m : Process b l me) (n : ℕ) (some : count_of b me ≡ suc n) where
      abbrev others : List Message
      others = messages n (length_of b) (sum_of w) (text_in b) (suc (oldest me))

      emptier : view (received_bytes b me) l (received_words w me) ≡ received others
      unfolding with_box with_marks with_cash earn
      emptier =
          let Z = f.sized in
          let C = f.cells in
          boxed-view (received-boxed b l w Z C me m n some) l C _ _ _
          (received-cash b l w Z C me m n some)
          (received-marks b l w Z C me m n some)
          (received-box b l w Z C me m n some)

      takes-oldest : receive_does s c me k (s.box me)
          ≡ hands_over (sum_of w (oldest me)) (oldest_bytes b me) (received others)
      unfolding receive_does messages
      takes-oldest = ap (receive_does s c me k)
          (box-here b l w me (is-process m)
          ∙ ap (λ i. messages i (length_of b) (sum_of w) (text_in b) (oldest me)) some)

      receive-does : DoesPlain l s c me k receive
          (handed_over (sum_of w (oldest me)) (oldest_bytes b me) (received_bytes b me) l (received_words w me))
      unfolding handed_over hands_over does
      receive-does =
          let Z = f.sized in
          let C = f.cells in
          record {
            rules = takes-oldest ∙ ap (hands_over (sum_of w (oldest me)) (oldest_bytes b me)) (sym emptier);
            sized = received-sized b l w Z C me m n some;
            cells = boxed-cells (received-boxed b l w Z C me m n some) l C (received-waits b l w Z C me m n some);
            links = refl;
          }

    pub receive-meets : Process b l me → op c.number ≡ receive → MeetsPlain l s c me k receive (receive_run b l w me)
    unfolding takes refuses receive_run receive_stop
    receive-meets m e =
        plain-settled b l w c me k receive (rw e refl) f (receive_stop b me) _ (receive-stop m) (λ z.
        let some : count_of b me ≢ 0 = opened (count_of b me) z in
        receive-does m (count_of b me - 1) (omega arith))
