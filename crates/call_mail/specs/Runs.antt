-- The own parts of send and receive, exactly: their refusals by tests on the cells, and what they do by stores to them.
-- The slices are those that the fee left; `me` is the caller's slot, `k` that of the capability presented.
use Rattle.std.specs.Prelude.{ℕ, ◌+◌, ◌-◌, ◌*◌, ◌≤◌, ◌≡◌, ◌≢◌, not, List, [], ◌∷◌, eqb, leb, ltb, length, set, take, drop}
use Rattle.rules.specs.Code as Code
use Rattle.rules.specs.Limit as Limit
use Rattle.rules.specs.Refusals.{◌when◌, first}
use Rattle.layout.specs.Layout as Layout
use Rattle.layout.specs.Rows.{flag_of, count_of, length_of, text_in, master_of, owner_of, cash_of, sum_of}
use Rattle.layout.specs.View.{is_process}
use Rattle.layout.specs.WellFormed.{Sized}
use Rattle.call_steps.specs.Tests.{ObjectSlot}
use Rattle.call_steps.specs.Run.{Target, Ran, over, handed_over, settled}
use Rattle.call_steps.specs.Copies.{copied}

-- ---- slots

-- message m of object o
abbrev pub message_slot : ℕ → ℕ → ℕ
message_slot o m = o * Limit.box + m

-- where the text of message i starts
abbrev pub text_from : ℕ → ℕ
text_from i = Layout.TEXT + i * Limit.message

-- ---- send: 8 not a process; 9 the caller's cash is below the sum; 14 four messages in the box

unfoldable pub send_stop : List ℕ → List ℕ → List ℕ → ℕ → ℕ → ℕ → ℕ
send_stop b l w me k sum = first
    (Code.not_process when not (is_process (master_of l) (flag_of b) (owner_of l k))
    ∷ Code.too_little when ltb (cash_of w me) sum
    ∷ Code.box_full when leb Limit.box (count_of b (owner_of l k))
    ∷ [])

-- the text, and its length, of message i
abbrev pub placed_bytes : List ℕ → ℕ → List ℕ → List ℕ
placed_bytes b i text = set (copied (length text) text 0 b (text_from i)) (Layout.LENGTH + i) (length text)

abbrev pub placed_words : List ℕ → ℕ → ℕ → List ℕ
placed_words w i sum = set w (Layout.SUM + i) sum

-- that is what b' and w' are
pub record MessagePlaced (b w text : List ℕ) (i sum : ℕ) (b' w' : List ℕ) : Type 0 where
  pub bytes : b' ≡ placed_bytes b i text
  pub words : w' ≡ placed_words w i sum

-- the message after those that the box of o has; o has one more, and waits no longer
abbrev pub sent_bytes : List ℕ → ℕ → List ℕ → List ℕ
sent_bytes b o text = set
    (set (placed_bytes b (message_slot o (count_of b o)) text) (Layout.COUNT + o) (count_of b o + 1))
    (Layout.WAITING + o) 0

-- the sum, from the cash of me to message i
abbrev pub sent_words : List ℕ → ℕ → ℕ → ℕ → List ℕ
sent_words w me i sum = placed_words (set w (Layout.CASH + me) (cash_of w me - sum)) i sum

unfoldable pub send_run : List ℕ → List ℕ → List ℕ → List ℕ → ℕ → ℕ → ℕ → Ran
send_run b l w text me k sum = settled (send_stop b l w me k sum) b l w (over Code.done (sent_bytes b (owner_of l k) text) l
    (sent_words w me (message_slot (owner_of l k) (count_of b (owner_of l k))) sum))

-- ---- receive: 15 the box is empty

unfoldable pub receive_stop : List ℕ → ℕ → ℕ
receive_stop b me = first (Code.box_empty when eqb (count_of b me) 0 ∷ [])

-- the slot of the oldest message of me, and its bytes
abbrev pub oldest : ℕ → ℕ
oldest me = me * Limit.box

abbrev pub oldest_bytes : List ℕ → ℕ → List ℕ
oldest_bytes b me = take (length_of b (oldest me)) (drop (oldest me * Limit.message) (text_in b))

-- how many messages are after the oldest
abbrev pub following : ℕ
following = 3

-- those after slot i move down one place
abbrev pub moved_texts : List ℕ → ℕ → List ℕ
moved_texts b i = copied (following * Limit.message) b (text_from i + Limit.message) b (text_from i)

abbrev pub moved_bytes : List ℕ → ℕ → List ℕ
moved_bytes b i = copied following (moved_texts b i) (Layout.LENGTH + i + 1) (moved_texts b i) (Layout.LENGTH + i)

abbrev pub moved_words : List ℕ → ℕ → List ℕ
moved_words w i = copied following w (Layout.SUM + i + 1) w (Layout.SUM + i)

-- that is what b' and w' are
pub record Moved (b w : List ℕ) (i : ℕ) (b' w' : List ℕ) : Type 0 where
  pub bytes : b' ≡ moved_bytes b i
  pub words : w' ≡ moved_words w i

-- the box of me has one message fewer
abbrev pub received_bytes : List ℕ → ℕ → List ℕ
received_bytes b me = set (moved_bytes b (oldest me)) (Layout.COUNT + me) (count_of b me - 1)

-- the sum of its oldest is in the cash
abbrev pub received_words : List ℕ → ℕ → List ℕ
received_words w me = moved_words (set w (Layout.CASH + me) (cash_of w me + sum_of w (oldest me))) (oldest me)

unfoldable pub receive_run : List ℕ → List ℕ → List ℕ → ℕ → Ran
receive_run b l w me = settled (receive_stop b me) b l w
    (handed_over (sum_of w (oldest me)) (oldest_bytes b me) (received_bytes b me) l (received_words w me))

-- ---- what the code asks

pub record PlaceAsks (b w text : List ℕ) (i : ℕ) : Type 0 where
  pub bytes : length b ≡ Layout.BYTES
  pub words : length w ≡ Layout.WORDS
  pub short : length text ≤ Limit.message
  pub high : i ≤ Layout.MESSAGE_SLOTS

pub record SendAsks (b l w text : List ℕ) (me k : ℕ) : Type 0 where
  pub sized : Sized b l w
  pub caller : ObjectSlot me
  pub target : Target l k
  pub short : length text ≤ Limit.message

pub record MoveAsks (b w : List ℕ) (i : ℕ) : Type 0 where
  pub bytes : length b ≡ Layout.BYTES
  pub words : length w ≡ Layout.WORDS
  pub high : i ≤ Limit.objects * Limit.box

pub record ReceiveAsks (b w buffer : List ℕ) (me : ℕ) : Type 0 where
  pub bytes : length b ≡ Layout.BYTES
  pub words : length w ≡ Layout.WORDS
  pub room : Limit.buffer ≤ length buffer
  pub caller : ObjectSlot me
  pub short : count_of b me ≢ 0 → length_of b (oldest me) ≤ Limit.message
  -- the cash has room for the sum
  pub fits : count_of b me ≢ 0 → cash_of w me + sum_of w (oldest me) ≤ Limit.word
