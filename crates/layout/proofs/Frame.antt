-- Frames: a part of the view is as it was where the rows that it depends on are, in all slots (`lock-same`) or in one
-- (`lock-same-at`). `at-is` puts a part together in which one slot is changed, `state-is` the state of its parts.
-- For example, process o is suspended: ws = put 64 Layout.SUSPENDED o 1 ∷ [], b' = puts ws b. With
--   flag = field-kept 64 Layout.FLAG b ws refl (omega arith)
--   mark = field-puts 64 Layout.SUSPENDED b (omega arith) ws refl (omega arith) (omega arith)
-- the lockwords are as they were, and so are the marks of each j ≢ o:
--   lock-same b l w b' l w refl flag refl refl
--   marks-same-at b l w b' l w j refl (λ k. flag k j) ((λ k. mark k j) ∙ at-other (suspended_of b) o 1 j ne) ..
use Prim.Native.Nat.{ℕ, zero, suc, ◌+◌, ◌*◌, ◌≤◌, ◌<◌}
use mathlib.Core.Path.{◌≡◌, refl, sym, ap, ◌∙◌}
use mathlib.Core.Bool.{Bool, true, false, ◌&&◌}
use mathlib.Core.List.{List, [], ◌∷◌}
use native.Mathlib.Omega.{arith}
use native.Mathlib.Decide.{ℕ_discrete}
use lib.ListN.{length, get_or, take, drop}
use Rattle.rules.specs.Store.{State, no_object, no_lockword, no_marks, no_cap, blocks}
use Rattle.layout.specs.Layout as Layout
use Rattle.layout.specs.Rows.{volume_of, flag_of, suspended_of, waiting_of, terminated_of, count_of, length_of}
use Rattle.layout.specs.Rows.{text_in, data_in}
use Rattle.layout.specs.Rows.{master_of, serial_of, size_of, first_block_of, next_block_of}
use Rattle.layout.specs.Rows.{owner_of, parent_of, rights_of, last_day_of}
use Rattle.layout.specs.Rows.{cash_of, lock1_of, lock2_of, sum_of, p1_of, p2_of, money_of, start_of, end_of}
use Rattle.layout.specs.View.{is_set, is_process, only_where, objects, gather, bytes, locks, cash, marks}
use Rattle.layout.specs.View.{messages, boxes, caps, moneywords, view}
use Rattle.layout.specs.Shape.{Chain, times, BlocksOf}
use Rattle.layout.proofs.Counts.{one_same}
use Rattle.layout.proofs.Shown.{bytes-here, bytes-none}

-- a state is its parts
pub state-is : (s r : State) → s.house ≡ r.house → s.day ≡ r.day → s.object ≡ r.object → s.bytes ≡ r.bytes → s.lock ≡ r.lock
    → s.cash ≡ r.cash → s.marks ≡ r.marks → s.box ≡ r.box → s.cap ≡ r.cap → s.money ≡ r.money → s ≡ r
state-is s r h d o y l c m x p w = λ k. record {
  house = h k;
  day = d k;
  object = o k;
  bytes = y k;
  lock = l k;
  cash = c k;
  marks = m k;
  box = x k;
  cap = p k;
  money = w k;
}

where-same : {A : Type 0} (test test' : ℕ → Bool) (none : A) (f f' : ℕ → A) (i : ℕ)
    → test' i ≡ test i → f' i ≡ f i → only_where test' none f' i ≡ only_where test none f i
unfolding only_where
where-same test test' none f f' i t e = λ k. elim (t k) [ true ↦ e k | false ↦ none ]

-- the blocks of a chain, where their links and their bytes are as they were
gather-same : (next next' : ℕ → ℕ) (store store' : List ℕ) (n head : ℕ) (xs : List ℕ)
    → Chain 512 next head xs → length xs ≡ n
    → ((j : ℕ) → 1 ≤ times j xs → next' j ≡ next j)
    → ((j : ℕ) → 1 ≤ times j xs → take 64 (drop (j * 64) store') ≡ take 64 (drop (j * 64) store))
    → gather n next' store' head ≡ gather n next store head
unfolding gather Chain times
gather-same next next' store store' zero head xs c e h d = refl
gather-same next next' store store' (suc n) head [] c e h d = absurd (omega arith)
gather-same next next' store store' (suc n) head (j ∷ xs) c e h d =
    let here : 1 ≤ times head (j ∷ xs) = rw c.0 (omega (arith, one_same j)) in
    let rest = gather-same next next' store store' n (next j) xs c.3 (omega arith)
    (λ k p. h k (omega arith)) (λ k p. d k (omega arith)) in
    rw (d head here, h head here, c.0, rest)

-- the messages of n slots from i on, where their lengths, sums and texts are as they were
messages-same : (len len' sum sum' : ℕ → ℕ) (text text' : List ℕ) (n i : ℕ)
    → ((j : ℕ) → i ≤ j → j < i + n → len' j ≡ len j)
    → ((j : ℕ) → i ≤ j → j < i + n → sum' j ≡ sum j)
    → ((j : ℕ) → i ≤ j → j < i + n → take (len j) (drop (j * 16) text') ≡ take (len j) (drop (j * 16) text))
    → messages n len' sum' text' i ≡ messages n len sum text i
unfolding messages
messages-same len len' sum sum' text text' zero i a s t = refl
messages-same len len' sum sum' text text' (suc n) i a s t =
    rw (
      a i (omega arith) (omega arith),
      s i (omega arith) (omega arith),
      t i (omega arith) (omega arith),
      messages-same len len' sum sum' text text' n (suc i) (λ j p q. a j (omega arith) (omega arith))
          (λ j p q. s j (omega arith) (omega arith)) (λ j p q. t j (omega arith) (omega arith)),
    )

module _ (b l w b' l' w' : List ℕ) where
  -- ---- in all slots

  pub house-same : get_or w' Layout.HOUSE 0 ≡ get_or w Layout.HOUSE 0 → (view b' l' w').house ≡ (view b l w).house
  unfolding view
  house-same e = e

  pub day-same : get_or l' Layout.DAY 0 ≡ get_or l Layout.DAY 0 → (view b' l' w').day ≡ (view b l w).day
  unfolding view
  day-same e = e

  pub object-same : master_of l' ≡ master_of l → volume_of b' ≡ volume_of b → serial_of l' ≡ serial_of l
      → size_of l' ≡ size_of l → flag_of b' ≡ flag_of b → (view b' l' w').object ≡ (view b l w).object
  unfolding view
  object-same m v s z f = λ k. objects (m k) (v k) (s k) (z k) (f k)

  pub bytes_same : master_of l' ≡ master_of l → size_of l' ≡ size_of l → first_block_of l' ≡ first_block_of l
      → next_block_of l' ≡ next_block_of l → data_in b' ≡ data_in b → (view b' l' w').bytes ≡ (view b l w).bytes
  unfolding view
  bytes_same m z f n d = λ k. bytes (m k) (z k) (f k) (n k) (d k)

  pub lock-same : master_of l' ≡ master_of l → flag_of b' ≡ flag_of b → lock1_of w' ≡ lock1_of w → lock2_of w' ≡ lock2_of w
      → (view b' l' w').lock ≡ (view b l w).lock
  unfolding view
  lock-same m f x y = λ k. locks (m k) (f k) (x k) (y k)

  pub cash-same : master_of l' ≡ master_of l → flag_of b' ≡ flag_of b → cash_of w' ≡ cash_of w
      → (view b' l' w').cash ≡ (view b l w).cash
  unfolding view
  cash-same m f c = λ k. cash (m k) (f k) (c k)

  pub marks-same : master_of l' ≡ master_of l → flag_of b' ≡ flag_of b → suspended_of b' ≡ suspended_of b
      → waiting_of b' ≡ waiting_of b → terminated_of b' ≡ terminated_of b → (view b' l' w').marks ≡ (view b l w).marks
  unfolding view
  marks-same m f s a t = λ k. marks (m k) (f k) (s k) (a k) (t k)

  pub box-same : master_of l' ≡ master_of l → flag_of b' ≡ flag_of b → count_of b' ≡ count_of b → length_of b' ≡ length_of b
      → sum_of w' ≡ sum_of w → text_in b' ≡ text_in b → (view b' l' w').box ≡ (view b l w).box
  unfolding view
  box-same m f c n s t = λ k. boxes (m k) (f k) (c k) (n k) (s k) (t k)

  pub cap-same : owner_of l' ≡ owner_of l → parent_of l' ≡ parent_of l → p1_of w' ≡ p1_of w → p2_of w' ≡ p2_of w
      → start_of w' ≡ start_of w → end_of w' ≡ end_of w → rights_of l' ≡ rights_of l → last_day_of l' ≡ last_day_of l
      → (view b' l' w').cap ≡ (view b l w).cap
  unfolding view
  cap-same o p x y s e r d = λ k. caps (o k) (p k) (x k) (y k) (s k) (e k) (r k) (d k)

  pub money-same : owner_of l' ≡ owner_of l → money_of w' ≡ money_of w → (view b' l' w').money ≡ (view b l w).money
  unfolding view
  money-same o m = λ k. moneywords (o k) (m k)

  -- ---- in one slot

  pub object-same-at : (o : ℕ) → master_of l' o ≡ master_of l o → volume_of b' o ≡ volume_of b o
      → serial_of l' o ≡ serial_of l o → size_of l' o ≡ size_of l o → flag_of b' o ≡ flag_of b o
      → (view b' l' w').object o ≡ (view b l w).object o
  unfolding view objects
  object-same-at o m v s z f = where-same _ _ no_object _ _ o (ap is_set m) (λ k. record {
    live = true;
    name = record { volume = v k; serial = s k };
    size = z k;
    process = is_set (f k);
  })

  pub cap-same-at : (i : ℕ) → owner_of l' i ≡ owner_of l i → parent_of l' i ≡ parent_of l i → p1_of w' i ≡ p1_of w i
      → p2_of w' i ≡ p2_of w i → start_of w' i ≡ start_of w i → end_of w' i ≡ end_of w i → rights_of l' i ≡ rights_of l i
      → last_day_of l' i ≡ last_day_of l i
      → (view b' l' w').cap i ≡ (view b l w).cap i
  unfolding view caps
  cap-same-at i o p x y s e r d = where-same _ _ no_cap _ _ i (ap is_set o) (λ k. record {
    object = o k;
    parent = p k;
    password = record { p1 = x k; p2 = y k };
    window = record { start = s k; end = e k };
    rights = r k;
    last_day = d k;
  })

  pub money-same-at : (i : ℕ) → owner_of l' i ≡ owner_of l i → money_of w' i ≡ money_of w i
      → (view b' l' w').money i ≡ (view b l w).money i
  unfolding view moneywords
  money-same-at i o m = where-same _ _ 0 (money_of w) (money_of w') i (ap is_set o) m

  -- the bytes of an object with the chain xs of blocks
  pub bytes-same-at : (o : ℕ) (xs : List ℕ) → BlocksOf l o xs → master_of l' o ≡ master_of l o
      → size_of l' o ≡ size_of l o → first_block_of l' o ≡ first_block_of l o
      → ((j : ℕ) → 1 ≤ times j xs → next_block_of l' j ≡ next_block_of l j)
      → ((j : ℕ) → 1 ≤ times j xs → take 64 (drop (j * 64) (data_in b')) ≡ take 64 (drop (j * 64) (data_in b)))
      → (view b' l' w').bytes o ≡ (view b l w).bytes o
  bytes-same-at o xs c m z f n d = go (ℕ_discrete (master_of l o) 0)
    where
      go : Dec (master_of l o ≡ 0) → (view b' l' w').bytes o ≡ (view b l w).bytes o
      go (yes e) = bytes-none b' l' w' o (m ∙ e) ∙ sym (bytes-none b l w o e)
      go (no alive) = bytes-here b' l' w' o (λ e. alive (sym m ∙ e))
          ∙ rw (
            z,
            f,
            gather-same (next_block_of l) (next_block_of l') (data_in b) (data_in b') (blocks (size_of l o))
                (first_block_of l o) xs (c.live alive).0 (c.live alive).1 n d,
          )
          (sym (bytes-here b l w o alive))

  -- of a process
  module _ (o : ℕ) (m : master_of l' o ≡ master_of l o) (f : flag_of b' o ≡ flag_of b o) where
    process-same : is_process (master_of l') (flag_of b') o ≡ is_process (master_of l) (flag_of b) o
    unfolding is_process
    process-same = λ k. is_set (m k) && is_set (f k)

    pub lock-same-at : lock1_of w' o ≡ lock1_of w o → lock2_of w' o ≡ lock2_of w o
        → (view b' l' w').lock o ≡ (view b l w).lock o
    unfolding view locks
    lock-same-at x y = where-same _ _ no_lockword _ _ o process-same (λ k. record { first = x k; second = y k })

    pub cash-same-at : cash_of w' o ≡ cash_of w o → (view b' l' w').cash o ≡ (view b l w).cash o
    unfolding view cash
    cash-same-at c = where-same _ _ 0 (cash_of w) (cash_of w') o process-same c

    pub marks-same-at : suspended_of b' o ≡ suspended_of b o → waiting_of b' o ≡ waiting_of b o
        → terminated_of b' o ≡ terminated_of b o → (view b' l' w').marks o ≡ (view b l w).marks o
    unfolding view marks
    marks-same-at s a t = where-same _ _ no_marks _ _ o process-same
        (λ k. record { suspended = is_set (s k); waiting = is_set (a k); terminated = is_set (t k) })

    -- the slots of its messages are o * 4 and on
    pub box-same-at : count_of b' o ≡ count_of b o
        → ((j : ℕ) → o * 4 ≤ j → j < o * 4 + count_of b o → length_of b' j ≡ length_of b j)
        → ((j : ℕ) → o * 4 ≤ j → j < o * 4 + count_of b o → sum_of w' j ≡ sum_of w j)
        → ((j : ℕ) → o * 4 ≤ j → j < o * 4 + count_of b o
        → take (length_of b j) (drop (j * 16) (text_in b')) ≡ take (length_of b j) (drop (j * 16) (text_in b)))
        → (view b' l' w').box o ≡ (view b l w).box o
    unfolding view boxes
    box-same-at c n s t = where-same _ _ [] _ _ o process-same (rw c (messages-same (length_of b) (length_of b') (sum_of w)
        (sum_of w') (text_in b) (text_in b') (count_of b o) (o * 4) n s t))
