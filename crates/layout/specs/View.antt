-- What three slices mean: the rules' State. Each part is a function of the rows that it depends on alone.
use Rattle.std.specs.Prelude.{ℕ, zero, suc, ◌*◌, Bool, true, false, not, ◌&&◌, List, [], ◌∷◌, ◌++◌, eqb, get_or, take, drop}
use Rattle.rules.specs.Limit as Limit
use Rattle.rules.specs.Store.{Lockword, Marks, Message, Object, Cap, State}
use Rattle.rules.specs.Store.{no_lockword, no_marks, no_object, no_cap, blocks}
use Rattle.layout.specs.Layout as Layout
use Rattle.layout.specs.Rows.{volume_of, flag_of, suspended_of, waiting_of, terminated_of, count_of, length_of}
use Rattle.layout.specs.Rows.{text_in, data_in}
use Rattle.layout.specs.Rows.{master_of, serial_of, size_of, first_block_of, owner_of, parent_of, rights_of, next_block_of}
use Rattle.layout.specs.Rows.{last_day_of}
use Rattle.layout.specs.Rows.{cash_of, lock1_of, lock2_of, sum_of, p1_of, p2_of, money_of, start_of, end_of}

-- not 0: the flag or mark is set, the link names a record
unfoldable pub is_set : ℕ → Bool
is_set x = not (eqb x 0)

-- the object in slot o lives and is a process
unfoldable pub is_process : (master flag : ℕ → ℕ) → ℕ → Bool
is_process master flag o = is_set (master o) && is_set (flag o)

-- f at the slots that pass the test, and else none
unfoldable pub only_where : {A : Type 0} → (ℕ → Bool) → A → (ℕ → A) → ℕ → A
only_where test none f i = elim (test i) [ true ↦ f i | false ↦ none ]

-- ---- objects

unfoldable pub objects : (master volume serial size flag : ℕ → ℕ) → ℕ → Object
objects master volume serial size flag = only_where (λ o. is_set (master o)) no_object (λ o. record {
  live = true;
  name = record { volume = volume o; serial = serial o };
  size = size o;
  process = is_set (flag o);
})

-- the bytes of n blocks from block k on
unfoldable pub gather : ℕ → (ℕ → ℕ) → List ℕ → ℕ → List ℕ
gather zero next store k = []
gather (suc n) next store k = take Limit.block (drop (k * Limit.block) store) ++ gather n next store (next k)

unfoldable pub bytes : (master size first next : ℕ → ℕ) → List ℕ → ℕ → List ℕ
bytes master size first next store = only_where (λ o. is_set (master o)) []
    (λ o. take (size o) (gather (blocks (size o)) next store (first o)))

-- ---- processes

unfoldable pub locks : (master flag word1 word2 : ℕ → ℕ) → ℕ → Lockword
locks master flag word1 word2 = only_where (is_process master flag) no_lockword
    (λ o. record { first = word1 o; second = word2 o })

unfoldable pub cash : (master flag amount : ℕ → ℕ) → ℕ → ℕ
cash master flag amount = only_where (is_process master flag) 0 amount

unfoldable pub marks : (master flag suspended waiting terminated : ℕ → ℕ) → ℕ → Marks
marks master flag suspended waiting terminated = only_where (is_process master flag) no_marks (λ o. record {
  suspended = is_set (suspended o);
  waiting = is_set (waiting o);
  terminated = is_set (terminated o);
})

-- n messages from slot i on
unfoldable pub messages : ℕ → (length sum : ℕ → ℕ) → List ℕ → ℕ → List Message
messages zero length sum text i = []
messages (suc n) length sum text i =
    record { bytes = take (length i) (drop (i * Limit.message) text); sum = sum i } ∷ messages n length sum text (suc i)

unfoldable pub boxes : (master flag count length sum : ℕ → ℕ) → List ℕ → ℕ → List Message
boxes master flag count length sum text = only_where (is_process master flag) []
    (λ o. messages (count o) length sum text (o * Limit.box))

-- ---- capabilities

unfoldable pub caps : (owner parent p1 p2 start end rights last_day : ℕ → ℕ) → ℕ → Cap
caps owner parent p1 p2 start end rights last_day = only_where (λ i. is_set (owner i)) no_cap (λ i. record {
  object = owner i;
  parent = parent i;
  password = record { p1 = p1 i; p2 = p2 i };
  window = record { start = start i; end = end i };
  rights = rights i;
  last_day = last_day i;
})

unfoldable pub moneywords : (owner amount : ℕ → ℕ) → ℕ → ℕ
moneywords owner amount = only_where (λ i. is_set (owner i)) 0 amount

-- ---- the store

unfoldable pub view : List ℕ → List ℕ → List ℕ → State
view b l w = record {
  house = get_or w Layout.HOUSE 0;
  day = get_or l Layout.DAY 0;
  object = objects (master_of l) (volume_of b) (serial_of l) (size_of l) (flag_of b);
  bytes = bytes (master_of l) (size_of l) (first_block_of l) (next_block_of l) (data_in b);
  lock = locks (master_of l) (flag_of b) (lock1_of w) (lock2_of w);
  cash = cash (master_of l) (flag_of b) (cash_of w);
  marks = marks (master_of l) (flag_of b) (suspended_of b) (waiting_of b) (terminated_of b);
  box = boxes (master_of l) (flag_of b) (count_of b) (length_of b) (sum_of w) (text_in b);
  cap = caps (owner_of l) (parent_of l) (p1_of w) (p2_of w) (start_of w) (end_of w) (rights_of l) (last_day_of l);
  money = moneywords (owner_of l) (money_of w);
}
