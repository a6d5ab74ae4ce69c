-- What the stores of send mean: one message more in the target's box, and the target's waiting mark clear; the sum
-- taken from the caller's cash.
use Prim.Native.Nat.{ℕ, suc, ◌+◌, ◌-◌, ◌*◌, ◌≤◌, ◌<◌}
use mathlib.Core.Path.{◌≡◌, refl, sym, ap, ◌∙◌}
use mathlib.Core.Logic.{◌≢◌}
use mathlib.Core.Bool.{true, false}
use mathlib.Core.List.{List, [], ◌∷◌, ◌++◌}
use native.Mathlib.Omega.{arith}
use lib.ListN.{length, get_or, take, drop}
use Rattle.rules.specs.Slots.{at}
use Rattle.rules.specs.Store.{Marks}
use Rattle.rules.proofs.Slots.{at_here, at-else, at-by}
use Rattle.layout.specs.Layout as Layout
use Rattle.layout.specs.Rows.{field, flag_of, waiting_of, count_of, length_of, text_in}
use Rattle.layout.specs.Rows.{master_of, cash_of, sum_of}
use Rattle.layout.specs.View.{is_set, is_process, messages, view}
use Rattle.layout.specs.WellFormed.{Sized, Cells}
use Rattle.layout.proofs.Field.{at-is}
use Rattle.layout.proofs.Puts.{Put, put, puts, Within, beside, length-puts, field_puts, field-kept, region-kept}
use Rattle.layout.proofs.Puts.{head_puts}
use Rattle.layout.proofs.Shown.{cash-here, marks-here, box-here}
use Rattle.layout.proofs.Frame.{cash-same-at, marks-same-at}
use Rattle.call_steps.specs.Run.{Process}
use Rattle.call_steps.specs.Copies.{copied}
use Rattle.call_steps.proofs.Process.{is-process}
use Rattle.call_mail.specs.Runs.{message_slot, text_from}
use Rattle.call_mail.proofs.Copying.{length-copied, copied-in, copied-out, field-copied, region-copied}
use Rattle.call_mail.proofs.Boxes.{message_at, message-is, text-is, text_same, messages-moved, messages-more}
use Rattle.call_mail.proofs.Boxed.{Boxed, box-is}

-- ---- a text of at most 16 bytes, copied to slot i

module _ (b : List ℕ) (z : length b ≡ Layout.BYTES) (text : List ℕ) (short : length text ≤ 16) (i : ℕ)
    (high : i ≤ 259) where
  abbrev after : List ℕ
  after = copied (length text) text 0 b (text_from i)

  after-length : length after ≡ Layout.BYTES
  after-length = length-copied text 0 b (text_from i) (length text) ∙ z

  text-here : take (length text) (drop (i * 16) (text_in after)) ≡ text
  text-here = text-is after after-length i (length text) high short text refl (λ j p.
      let front : 0 + j ≡ j = omega arith in
      copied-in text 0 b (text_from i) (length text) j (omega arith) p ∙ ap (λ k. get_or text k 0) front)

  text-else : (j n : ℕ) → j ≤ 259 → j ≢ i → n ≤ 16
      → take n (drop (j * 16) (text_in after)) ≡ take n (drop (j * 16) (text_in b))
  text-else j n low ne small =
      text_same b after z after-length j j n low low small
      (λ k p. copied-out text 0 b (text_from i) (length text) (text_from j + k) (λ m r. omega arith))

-- awake, and its other marks as they are
abbrev awake : Marks → Marks
awake m = record { suspended = m.suspended; waiting = false; terminated = m.terminated }

module _ (b l w : List ℕ) (Z : Sized b l w) (C : Cells b l) (text : List ℕ) (short : length text ≤ 16) (me o sum : ℕ)
    (M : Process b l me) (P : Process b l o) (room : count_of b o < 4) where
  abbrev i : ℕ
  i = message_slot o (count_of b o)

  -- ---- the bytes

  abbrev stores : List Put
  stores =
      put 64 Layout.WAITING o 0
      ∷ put 64 Layout.COUNT o (count_of b o + 1)
      ∷ put 259 Layout.LENGTH i (length text)
      ∷ []

  abbrev b₁ : List ℕ
  b₁ = copied (length text) text 0 b (text_from i)

  abbrev b' : List ℕ
  b' = puts stores b₁

  high : i ≤ 259
  high = omega (arith, P.high)

  within : Within stores
  within = (P.high, (P.high, (high, tt)))

  b₁-length : length b₁ ≡ Layout.BYTES
  b₁-length = length-copied text 0 b (text_from i) (length text) ∙ Z.bytes

  unwritten : (n off : ℕ) → off + n < Layout.TEXT → field n off b₁ ≡ field n off b
  unwritten n off h = field-copied text 0 b (text_from i) (length text) n off (λ j m p q r. omega arith)

  kept : (n off : ℕ) → off + n < Layout.TEXT → beside (suc n) off stores ≡ true → field n off b' ≡ field n off b
  kept n off h t = field-kept n off b₁ stores t within ∙ unwritten n off h

  waits : waiting_of b' ≡ at (waiting_of b) o 0
  waits = field_puts 64 Layout.WAITING b₁ (omega (arith, b₁-length)) stores refl within (P.low, (tt, (tt, tt)))
      ∙ ap (λ f. at f o 0) (unwritten 64 Layout.WAITING (omega arith))

  counts : count_of b' ≡ at (count_of b) o (count_of b o + 1)
  counts = field_puts 64 Layout.COUNT b₁ (omega (arith, b₁-length)) stores refl within (tt, (P.low, (tt, tt)))
      ∙ ap (λ f. at f o (count_of b o + 1)) (unwritten 64 Layout.COUNT (omega arith))

  lengths : length_of b' ≡ at (length_of b) i (length text)
  lengths = field_puts 259 Layout.LENGTH b₁ (omega (arith, b₁-length)) stores refl within
      (tt, (tt, (omega (arith, P.low), tt)))
      ∙ ap (λ f. at f i (length text)) (unwritten 259 Layout.LENGTH (omega arith))

  texts : text_in b' ≡ text_in b₁
  texts = region-kept 4160 Layout.TEXT b₁ stores refl within

  -- ---- the words

  abbrev stored : List Put
  stored = put 259 Layout.SUM i sum ∷ put 64 Layout.CASH me (cash_of w me - sum) ∷ []

  abbrev w' : List ℕ
  w' = puts stored w

  inside : Within stored
  inside = (high, (M.high, tt))

  as_before : (n off : ℕ) → beside (suc n) off stored ≡ true → field n off w' ≡ field n off w
  as_before n off t = field-kept n off w stored t inside

  sums : sum_of w' ≡ at (sum_of w) i sum
  sums = field_puts 259 Layout.SUM w (omega (arith, Z.words)) stored refl inside (omega (arith, P.low), (tt, tt))

  spent : cash_of w' ≡ at (cash_of w) me (cash_of w me - sum)
  spent = field_puts 64 Layout.CASH w (omega (arith, Z.words)) stored refl inside (tt, (M.low, tt))

  -- ---- the messages

  message-else : (j : ℕ) → j ≤ 259 → j ≢ i → length_of b j ≤ 16
      → message_at (length_of b') (sum_of w') (text_in b') j ≡ message_at (length_of b) (sum_of w) (text_in b) j
  message-else j low ne small =
      message-is (length_of b) (length_of b') (sum_of w) (sum_of w') (text_in b) (text_in b') j j
      ((λ k. lengths k j) ∙ at-else (length_of b) i (length text) j ne)
      ((λ k. sums k j) ∙ at-else (sum_of w) i sum j ne)
      (rw texts (text-else b Z.bytes text short i high j (length_of b j) low ne small))

  message-here : message_at (length_of b') (sum_of w') (text_in b') i ≡ record { bytes = text; sum = sum }
  message-here =
      let n : length_of b' i ≡ length text = (λ k. lengths k i) ∙ at_here (length_of b) i (length text) in
      let s : sum_of w' i ≡ sum = (λ k. sums k i) ∙ at_here (sum_of w) i sum in
      let t : take (length text) (drop (i * 16) (text_in b')) ≡ text =
      rw texts (text-here b Z.bytes text short i high) in
      let u : take (length_of b' i) (drop (i * 16) (text_in b')) ≡ text =
      ap (λ k. take k (drop (i * 16) (text_in b'))) n ∙ t in
      λ k. record { bytes = u k; sum = s k }

  process : is_process (master_of l) (flag_of b) o ≡ true
  process = is-process P

  counted : count_of b' o ≡ suc (count_of b o)
  counted =
      let up : count_of b o + 1 ≡ suc (count_of b o) = omega arith in
      (λ k. counts k o) ∙ at_here (count_of b) o (count_of b o + 1) ∙ up

  pub sent-boxed : Boxed b w b' w' o
  sent-boxed = record {
    volume = kept 64 Layout.VOLUME (omega arith) refl;
    flag = kept 64 Layout.FLAG (omega arith) refl;
    suspended = kept 64 Layout.SUSPENDED (omega arith) refl;
    terminated = kept 64 Layout.TERMINATED (omega arith) refl;
    count = λ j ne. (λ k. counts k j) ∙ at-else (count_of b) o _ j ne;
    length = λ j out. (λ k. lengths k j) ∙ at-else (length_of b) i _ j (out (count_of b o) room);
    message = λ j low out small. message-else j low (out (count_of b o) room) small;
    room = omega (arith, counted);
    short = λ m p. rw lengths (at-by (λ j x. j ≡ message_slot o m → x ≤ 16) (length_of b) i (length text) (λ _. short)
        (λ j ne e. rw e (C.length o m process (omega (arith, counted)))) (message_slot o m) refl);
    bytes = region-kept 32832 Layout.DATA b₁ stores refl within
        ∙ region-copied text 0 b (text_from i) (length text) 32832 Layout.DATA (λ j m p q. omega (arith, high));
    house = head_puts Layout.HOUSE w (omega (arith, Z.words)) stored refl inside;
    lock1 = as_before 64 Layout.LOCK1 refl;
    lock2 = as_before 64 Layout.LOCK2 refl;
    p1 = as_before 512 Layout.P1 refl;
    p2 = as_before 512 Layout.P2 refl;
    money = as_before 512 Layout.MONEY refl;
    start = as_before 512 Layout.START refl;
    end = as_before 512 Layout.END refl;
  }

  -- ---- the view's parts

  pub sent-cash : (view b' l w').cash ≡ at (view b l w).cash me ((view b l w).cash me - sum)
  sent-cash =
      let f : flag_of b' ≡ flag_of b = sent-boxed.flag in
      let h = is-process M in
      at-is (view b l w).cash (view b' l w').cash me ((view b l w).cash me - sum)
      (cash-here b' l w' me (rw f h)
      ∙ (λ k. spent k me) ∙ at_here (cash_of w) me _ ∙ ap (λ x. x - sum) (sym (cash-here b l w me h)))
      (λ j ne. cash-same-at b l w b' l w' j refl (λ k. f k j) ((λ k. spent k j) ∙ at-else (cash_of w) me _ j ne))

  pub sent-marks : (view b' l w').marks ≡ at (view b l w).marks o (awake ((view b l w).marks o))
  unfolding is_set
  sent-marks =
      let X = sent-boxed in
      at-is (view b l w).marks (view b' l w').marks o (awake ((view b l w).marks o))
      (marks-here b' l w' o (rw X.flag process)
      ∙ (λ k. record {
        suspended = is_set (X.suspended k o);
        waiting = is_set (((λ i. waits i o) ∙ at_here (waiting_of b) o 0) k);
        terminated = is_set (X.terminated k o);
      })
      ∙ ap awake (sym (marks-here b l w o process)))
      (λ j ne. marks-same-at b l w b' l w' j refl (λ k. X.flag k j) (λ k. X.suspended k j)
      ((λ k. waits k j) ∙ at-else (waiting_of b) o 0 j ne) (λ k. X.terminated k j))

  pub sent-box : (view b' l w').box
      ≡ at (view b l w).box o ((view b l w).box o ++ record { bytes = text; sum = sum } ∷ [])
  sent-box = box-is sent-boxed l C process _
      (ap (λ n. messages n (length_of b') (sum_of w') (text_in b') (o * 4)) counted
      ∙ messages-more (length_of b') (sum_of w') (text_in b') (count_of b o) (o * 4)
      ∙ (λ k. messages-moved (length_of b) (length_of b') (sum_of w) (sum_of w') (text_in b) (text_in b') (count_of b o)
      (o * 4) (o * 4)
      (λ m p. message-else (message_slot o m) (omega (arith, high)) (omega arith) (C.length o m process p)) k
      ++ message-here k ∷ [])
      ∙ ap (λ r. r ++ record { bytes = text; sum = sum } ∷ []) (sym (box-here b l w o process)))

  pub sent-awake : (j : ℕ) → is_process (master_of l) (flag_of b) j ≡ true → waiting_of b' j ≤ 1
  sent-awake = rw waits (at-by (λ j x. is_process (master_of l) (flag_of b) j ≡ true → x ≤ 1) (waiting_of b) o 0
      (λ _. omega arith) (λ j _. C.waiting j))

  pub sent-sized : Sized b' l w'
  sent-sized = record {
    bytes = length-puts stores b₁ ∙ b₁-length;
    links = Z.links;
    words = length-puts stored w ∙ Z.words;
  }
