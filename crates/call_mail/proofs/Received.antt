-- What the stores of receive mean: the caller's box without its oldest message, whose sum is in the caller's cash.
use Prim.Native.Nat.{ℕ, suc, ◌+◌, ◌-◌, ◌*◌, ◌≤◌, ◌<◌}
use mathlib.Core.Path.{◌≡◌, refl, sym, ap, ◌∙◌}
use mathlib.Core.Bool.{true}
use mathlib.Core.List.{List}
use native.Mathlib.Omega.{arith}
use lib.ListN.{length, get_or, set, length-set}
use lib.Seq.{get_or-set_other}
use Rattle.rules.specs.Slots.{at}
use Rattle.rules.proofs.Slots.{at_here, at-else}
use Rattle.layout.specs.Layout as Layout
use Rattle.layout.specs.Rows.{field, flag_of, waiting_of, count_of, length_of, text_in}
use Rattle.layout.specs.Rows.{master_of, cash_of, sum_of}
use Rattle.layout.specs.View.{is_process, messages, view}
use Rattle.layout.specs.WellFormed.{Sized, Cells}
use Rattle.layout.proofs.Field.{at-is, field-other, field-same, region-other}
use Rattle.layout.proofs.Shown.{cash-here}
use Rattle.layout.proofs.Frame.{cash-same-at, marks-same}
use Rattle.call_steps.specs.Run.{Process}
use Rattle.call_steps.proofs.Process.{is-process}
use Rattle.call_mail.specs.Runs.{message_slot, text_from, oldest, moved_texts, moved_bytes, received_bytes, received_words}
use Rattle.call_mail.proofs.Copying.{length-copied, copied-in, copied-out, field-copied, field-copied-at}
use Rattle.call_mail.proofs.Copying.{field-shifted, region-copied}
use Rattle.call_mail.proofs.Boxes.{message_at, message-is, text_same, messages-moved}
use Rattle.call_mail.proofs.Boxed.{Outside, Boxed, box-is}

module _ (b l w : List ℕ) (Z : Sized b l w) (C : Cells b l) (me : ℕ) (M : Process b l me) (n : ℕ)
    (some : count_of b me ≡ suc n) where
  abbrev i : ℕ
  i = oldest me

  process : is_process (master_of l) (flag_of b) me ≡ true
  process = is-process M

  few : suc n ≤ 4
  few = omega (arith, C.count me process)

  -- ---- the bytes: texts, lengths, and the count

  abbrev b₁ : List ℕ
  b₁ = moved_texts b i

  abbrev b₂ : List ℕ
  b₂ = moved_bytes b i

  abbrev b' : List ℕ
  b' = received_bytes b me

  b₁-length : length b₁ ≡ Layout.BYTES
  b₁-length = length-copied b (text_from i + 16) b (text_from i) 48 ∙ Z.bytes

  b₂-length : length b₂ ≡ Layout.BYTES
  b₂-length = length-copied b₁ (Layout.LENGTH + i + 1) b₁ (Layout.LENGTH + i) 3 ∙ b₁-length

  -- a row before the texts, and one before the lengths
  untexted : (k off : ℕ) → off + k < Layout.TEXT → field k off b₁ ≡ field k off b
  untexted k off h = field-copied b (text_from i + 16) b (text_from i) 48 k off (λ j m p q r. omega arith)

  unmoved : (k off : ℕ) → off + k < Layout.LENGTH → field k off b₂ ≡ field k off b
  unmoved k off h =
      field-copied b₁ (Layout.LENGTH + i + 1) b₁ (Layout.LENGTH + i) 3 k off (λ j m p q r. omega arith)
      ∙ untexted k off (omega arith)

  kept : (k off : ℕ) → off + k < Layout.COUNT → field k off b' ≡ field k off b
  kept k off h =
      field-other k off b₂ (Layout.COUNT + me) (count_of b me - 1) (λ j p q. omega arith) ∙ unmoved k off (omega arith)

  counts : count_of b' ≡ at (count_of b) me (count_of b me - 1)
  counts = field-same 64 Layout.COUNT b₂ me (count_of b me - 1) M.high (omega (arith, b₂-length)) M.low
      ∙ ap (λ f. at f me (count_of b me - 1)) (unmoved 64 Layout.COUNT (omega arith))

  counted : count_of b' me ≡ n
  counted =
      let less : count_of b me - 1 ≡ n = omega arith in
      (λ k. counts k me) ∙ at_here (count_of b) me (count_of b me - 1) ∙ less

  lengths : length_of b' ≡ length_of b₂
  lengths = field-other 259 Layout.LENGTH b₂ (Layout.COUNT + me) (count_of b me - 1) (λ j p q. omega (arith, M.high))

  length-else : (j : ℕ) → Outside me j → length_of b' j ≡ length_of b j
  length-else j out =
      (λ k. lengths k j)
      ∙ field-copied-at b₁ (Layout.LENGTH + i + 1) b₁ (Layout.LENGTH + i) 3 259 Layout.LENGTH j
      (λ m p q r. omega (arith, out m (omega arith)))
      ∙ (λ k. untexted 259 Layout.LENGTH (omega arith) k j)

  length-next : (m : ℕ) → m < 3 → length_of b' (i + m) ≡ length_of b (i + 1 + m)
  length-next m p =
      (λ k. lengths k (i + m))
      ∙ field-shifted 3 259 Layout.LENGTH b₁ i m (omega (arith, M.low)) (omega (arith, M.high))
      (omega (arith, b₁-length)) p
      ∙ (λ k. untexted 259 Layout.LENGTH (omega arith) k (i + 1 + m))

  texts : text_in b' ≡ text_in b₁
  texts =
      region-other 4160 Layout.TEXT b₂ (Layout.COUNT + me) (count_of b me - 1) (λ j p. omega (arith, M.high))
      ∙ region-copied b₁ (Layout.LENGTH + i + 1) b₁ (Layout.LENGTH + i) 3 4160 Layout.TEXT
      (λ j m p q. omega (arith, M.high))

  -- ---- the words: the cash, and the sums

  abbrev v : ℕ
  v = cash_of w me + sum_of w i

  abbrev w₁ : List ℕ
  w₁ = set w (Layout.CASH + me) v

  abbrev w' : List ℕ
  w' = received_words w me

  w₁-length : length w₁ ≡ Layout.WORDS
  w₁-length = length-set w (Layout.CASH + me) v ∙ Z.words

  -- a row that is neither that of cash nor that of sums
  as_before : (k off : ℕ) → Layout.CASH + 64 < off + 1 → ((j : ℕ) → 1 ≤ j → j ≤ k → Layout.SUM + 259 < off + j)
      → field k off w' ≡ field k off w
  as_before k off h r =
      field-copied w₁ (Layout.SUM + i + 1) w₁ (Layout.SUM + i) 3 k off (λ j m p q s. omega (arith, r j p q, M.high))
      ∙ field-other k off w (Layout.CASH + me) v (λ j p q. omega (arith, M.high))

  purse : (off : ℕ) → off + 64 < Layout.SUM → field 64 off w' ≡ field 64 off w₁
  purse off h = field-copied w₁ (Layout.SUM + i + 1) w₁ (Layout.SUM + i) 3 64 off (λ j m p q s. omega arith)

  earned : cash_of w' ≡ at (cash_of w) me v
  earned = purse Layout.CASH (omega arith)
      ∙ field-same 64 Layout.CASH w me v M.high (omega (arith, Z.words)) M.low

  locked : (off : ℕ) → Layout.CASH + 64 < off + 1 → off + 64 < Layout.SUM → field 64 off w' ≡ field 64 off w
  locked off h g = purse off g ∙ field-other 64 off w (Layout.CASH + me) v (λ j p q. omega (arith, M.high))

  sums : sum_of w₁ ≡ sum_of w
  sums = field-other 259 Layout.SUM w (Layout.CASH + me) v (λ j p q. omega (arith, M.high))

  sum-else : (j : ℕ) → Outside me j → sum_of w' j ≡ sum_of w j
  sum-else j out =
      field-copied-at w₁ (Layout.SUM + i + 1) w₁ (Layout.SUM + i) 3 259 Layout.SUM j
      (λ m p q r. omega (arith, out m (omega arith)))
      ∙ (λ k. sums k j)

  sum-next : (m : ℕ) → m < 3 → sum_of w' (i + m) ≡ sum_of w (i + 1 + m)
  sum-next m p =
      field-shifted 3 259 Layout.SUM w₁ i m (omega (arith, M.low)) (omega (arith, M.high))
      (omega (arith, w₁-length)) p
      ∙ (λ k. sums k (i + 1 + m))

  -- ---- the messages

  message-else : (j : ℕ) → j ≤ 259 → Outside me j → length_of b j ≤ 16
      → message_at (length_of b') (sum_of w') (text_in b') j ≡ message_at (length_of b) (sum_of w) (text_in b) j
  message-else j low out small =
      message-is (length_of b) (length_of b') (sum_of w) (sum_of w') (text_in b) (text_in b') j j (length-else j out)
      (sum-else j out)
      (rw texts (text_same b b₁ Z.bytes b₁-length j j (length_of b j) low low small (λ k p.
      copied-out b (text_from i + 16) b (text_from i) 48 (text_from j + k) (λ m q.
      omega (arith, out 0 (omega arith), out 1 (omega arith), out 2 (omega arith))))))

  message-next : (m : ℕ) → m < 3 → length_of b (i + 1 + m) ≤ 16
      → message_at (length_of b') (sum_of w') (text_in b') (i + m) ≡ message_at (length_of b) (sum_of w) (text_in b) (i + 1 + m)
  message-next m p small =
      message-is (length_of b) (length_of b') (sum_of w) (sum_of w') (text_in b) (text_in b') (i + 1 + m) (i + m)
      (length-next m p) (sum-next m p)
      (rw texts (text_same b b₁ Z.bytes b₁-length (i + 1 + m) (i + m) (length_of b (i + 1 + m))
      (omega (arith, M.high)) (omega (arith, M.high)) small (λ k q.
      let here : text_from (i + m) + k ≡ text_from i + (m * 16 + k) = omega arith in
      let next : text_from i + 16 + (m * 16 + k) ≡ text_from (i + 1 + m) + k = omega arith in
      ap (λ j. get_or b₁ j 0) here
      ∙ copied-in b (text_from i + 16) b (text_from i) 48 (m * 16 + k) (omega (arith, Z.bytes, M.high)) (omega arith)
      ∙ ap (λ j. get_or b j 0) next)))

  small-next : (m : ℕ) → m < n → length_of b (i + 1 + m) ≤ 16
  small-next m p =
      let next : message_slot me (suc m) ≡ i + 1 + m = omega arith in
      rw next at (C.length me (suc m) process (omega arith))

  pub received-boxed : Boxed b w b' w' me
  received-boxed = record {
    volume = kept 64 Layout.VOLUME (omega arith);
    flag = kept 64 Layout.FLAG (omega arith);
    suspended = kept 64 Layout.SUSPENDED (omega arith);
    terminated = kept 64 Layout.TERMINATED (omega arith);
    count = λ j ne. (λ k. counts k j) ∙ at-else (count_of b) me _ j ne;
    length = length-else;
    message = message-else;
    room = omega (arith, counted, few);
    short = λ m p.
        let q : m < n = rw counted at p in
        rw (length-next m (omega (arith, few))) (small-next m q);
    bytes =
        region-other 32832 Layout.DATA b₂ (Layout.COUNT + me) (count_of b me - 1) (λ j p. omega (arith, M.high))
        ∙ region-copied b₁ (Layout.LENGTH + i + 1) b₁ (Layout.LENGTH + i) 3 32832 Layout.DATA
        (λ j m p q. omega (arith, M.high))
        ∙ region-copied b (text_from i + 16) b (text_from i) 48 32832 Layout.DATA (λ j m p q. omega (arith, M.high));
    house = copied-out w₁ (Layout.SUM + i + 1) w₁ (Layout.SUM + i) 3 Layout.HOUSE (λ m p. omega arith)
        ∙ get_or-set_other w (Layout.CASH + me) Layout.HOUSE v 0 (omega arith);
    lock1 = locked Layout.LOCK1 (omega arith) (omega arith);
    lock2 = locked Layout.LOCK2 (omega arith) (omega arith);
    p1 = as_before 512 Layout.P1 (omega arith) (λ j p q. omega arith);
    p2 = as_before 512 Layout.P2 (omega arith) (λ j p q. omega arith);
    money = as_before 512 Layout.MONEY (omega arith) (λ j p q. omega arith);
    start = as_before 512 Layout.START (omega arith) (λ j p q. omega arith);
    end = as_before 512 Layout.END (omega arith) (λ j p q. omega arith);
  }

  -- ---- the view's parts

  pub received-cash : (view b' l w').cash ≡ at (view b l w).cash me ((view b l w).cash me + sum_of w i)
  received-cash =
      let f : flag_of b' ≡ flag_of b = received-boxed.flag in
      at-is (view b l w).cash (view b' l w').cash me ((view b l w).cash me + sum_of w i)
      (cash-here b' l w' me (rw f process)
      ∙ (λ k. earned k me) ∙ at_here (cash_of w) me v ∙ ap (λ x. x + sum_of w i) (sym (cash-here b l w me process)))
      (λ j ne. cash-same-at b l w b' l w' j refl (λ k. f k j) ((λ k. earned k j) ∙ at-else (cash_of w) me v j ne))

  waits : waiting_of b' ≡ waiting_of b
  waits = kept 64 Layout.WAITING (omega arith)

  pub received-marks : (view b' l w').marks ≡ (view b l w).marks
  received-marks =
      let X = received-boxed in
      marks-same b l w b' l w' refl X.flag X.suspended waits X.terminated

  pub received-box : (view b' l w').box
      ≡ at (view b l w).box me (messages n (length_of b) (sum_of w) (text_in b) (suc i))
  received-box =
      let next : suc i ≡ i + 1 = omega arith in
      rw next (box-is received-boxed l C process _
      (ap (λ k. messages k (length_of b') (sum_of w') (text_in b') i) counted
      ∙ messages-moved (length_of b) (length_of b') (sum_of w) (sum_of w') (text_in b) (text_in b') n (i + 1) i
      (λ m p. message-next m (omega (arith, few)) (small-next m p))))

  pub received-waits : (j : ℕ) → is_process (master_of l) (flag_of b) j ≡ true → waiting_of b' j ≤ 1
  received-waits = rw waits C.waiting

  pub received-sized : Sized b' l w'
  received-sized = record {
    bytes = length-set b₂ (Layout.COUNT + me) (count_of b me - 1) ∙ b₂-length;
    links = Z.links;
    words = length-copied w₁ (Layout.SUM + i + 1) w₁ (Layout.SUM + i) 3 ∙ w₁-length;
  }
