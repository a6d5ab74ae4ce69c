-- The rows of the three slices after an object's record is written.
use Prim.Native.Nat.{ℕ, suc, ◌<◌}
use mathlib.Core.Path.{◌≡◌, refl, ◌∙◌}
use mathlib.Core.Bool.{true}
use mathlib.Core.List.{List, [], ◌∷◌}
use native.Mathlib.Omega.{arith}
use lib.ListN.{length, get_or}
use Rattle.rules.specs.Slots.{at}
use Rattle.layout.specs.Layout as Layout
use Rattle.layout.specs.Rows.{field, region, volume_of, flag_of, suspended_of, waiting_of, terminated_of, count_of}
use Rattle.layout.specs.Rows.{master_of, serial_of, size_of, first_block_of, next_object_of, next_block_of}
use Rattle.layout.specs.Rows.{owner_of, parent_of, first_child_of, next_cap_of, prev_cap_of, rights_of, last_day_of}
use Rattle.layout.specs.Rows.{cash_of, lock1_of, lock2_of}
use Rattle.layout.proofs.Puts.{Put, put, puts, Within, beside}
use Rattle.layout.proofs.Puts.{length-puts, field_puts, field-kept, head_puts, region-kept}
use Rattle.layout.proofs.Heads.{head-kept}
use Rattle.call_steps.specs.Tests.{ObjectSlot}
use Rattle.call_blocks.specs.Taking.{free_head, free_block, taken_links, Enough}
use Rattle.call_blocks.proofs.Taken.{Last, last-enough, taken-length, taken-row, taken-head}
use Rattle.call_grow.specs.Made.{free_cap}
use Rattle.call_make.specs.Runs.{free_object, record_bytes, record_links, record_words, object_links}

-- ---- the bytes

module _ (b : List ℕ) (o volume flag : ℕ) (S : ObjectSlot o) where
  abbrev byte_stores : List Put
  byte_stores =
      put 64 Layout.COUNT o 0
      ∷ put 64 Layout.TERMINATED o 0
      ∷ put 64 Layout.WAITING o 0
      ∷ put 64 Layout.SUSPENDED o 1
      ∷ put 64 Layout.FLAG o flag
      ∷ put 64 Layout.VOLUME o volume
      ∷ []

  bytes-within : Within byte_stores
  bytes-within = (S.high, (S.high, (S.high, (S.high, (S.high, (S.high, tt))))))

  pub bytes-long : length (record_bytes b o volume flag) ≡ length b
  unfolding record_bytes
  bytes-long = length-puts byte_stores b

  pub bytes-row : (n off : ℕ) → beside (suc n) off byte_stores ≡ true
      → field n off (record_bytes b o volume flag) ≡ field n off b
  unfolding record_bytes
  bytes-row n off t = field-kept n off b byte_stores t bytes-within

  pub bytes-region : (n off : ℕ) → beside n off byte_stores ≡ true
      → region n off (record_bytes b o volume flag) ≡ region n off b
  unfolding record_bytes
  bytes-region n off t = region-kept n off b byte_stores t bytes-within

  module _ (long : length b ≡ Layout.BYTES) where
    pub volume-row : volume_of (record_bytes b o volume flag) ≡ at (volume_of b) o volume
    unfolding record_bytes
    volume-row = field_puts 64 Layout.VOLUME b (omega arith) byte_stores refl bytes-within
        (tt, (tt, (tt, (tt, (tt, (S.low, tt))))))

    pub flag-row : flag_of (record_bytes b o volume flag) ≡ at (flag_of b) o flag
    unfolding record_bytes
    flag-row = field_puts 64 Layout.FLAG b (omega arith) byte_stores refl bytes-within
        (tt, (tt, (tt, (tt, (S.low, (tt, tt))))))

    pub suspended-row : suspended_of (record_bytes b o volume flag) ≡ at (suspended_of b) o 1
    unfolding record_bytes
    suspended-row = field_puts 64 Layout.SUSPENDED b (omega arith) byte_stores refl bytes-within
        (tt, (tt, (tt, (S.low, (tt, (tt, tt))))))

    pub waiting-row : waiting_of (record_bytes b o volume flag) ≡ at (waiting_of b) o 0
    unfolding record_bytes
    waiting-row = field_puts 64 Layout.WAITING b (omega arith) byte_stores refl bytes-within
        (tt, (tt, (S.low, (tt, (tt, (tt, tt))))))

    pub terminated-row : terminated_of (record_bytes b o volume flag) ≡ at (terminated_of b) o 0
    unfolding record_bytes
    terminated-row = field_puts 64 Layout.TERMINATED b (omega arith) byte_stores refl bytes-within
        (tt, (S.low, (tt, (tt, (tt, (tt, tt))))))

    pub count-row : count_of (record_bytes b o volume flag) ≡ at (count_of b) o 0
    unfolding record_bytes
    count-row = field_puts 64 Layout.COUNT b (omega arith) byte_stores refl bytes-within
        (S.low, (tt, (tt, (tt, (tt, (tt, tt))))))

-- ---- the words

module _ (w : List ℕ) (o : ℕ) (S : ObjectSlot o) where
  abbrev word_stores : List Put
  word_stores = put 64 Layout.LOCK2 o 0 ∷ put 64 Layout.LOCK1 o 0 ∷ put 64 Layout.CASH o 0 ∷ []

  words-within : Within word_stores
  words-within = (S.high, (S.high, (S.high, tt)))

  pub words_long : length (record_words w o) ≡ length w
  unfolding record_words
  words_long = length-puts word_stores w

  pub words_row : (n off : ℕ) → beside (suc n) off word_stores ≡ true → field n off (record_words w o) ≡ field n off w
  unfolding record_words
  words_row n off t = field-kept n off w word_stores t words-within

  pub words-head : (h : ℕ) → beside 1 h word_stores ≡ true → get_or (record_words w o) h 0 ≡ get_or w h 0
  unfolding record_words
  words-head h t = head-kept h w word_stores t words-within

  module _ (long : length w ≡ Layout.WORDS) where
    pub cash-row : cash_of (record_words w o) ≡ at (cash_of w) o 0
    unfolding record_words
    cash-row = field_puts 64 Layout.CASH w (omega arith) word_stores refl words-within (tt, (tt, (S.low, tt)))

    pub lock1-row : lock1_of (record_words w o) ≡ at (lock1_of w) o 0
    unfolding record_words
    lock1-row = field_puts 64 Layout.LOCK1 w (omega arith) word_stores refl words-within (tt, (S.low, (tt, tt)))

    pub lock2-row : lock2_of (record_words w o) ≡ at (lock2_of w) o 0
    unfolding record_words
    lock2-row = field_puts 64 Layout.LOCK2 w (omega arith) word_stores refl words-within (S.low, (tt, (tt, tt)))

-- ---- the links, with the blocks taken

-- l' is l with the record of object o, whose master is to be in slot i and whose blocks are those of l₁
pub record Recorded (l l₁ l' : List ℕ) (o serial size i : ℕ) : Type 0 where
  pub long : length l' ≡ length l
  pub master-is : master_of l' ≡ at (master_of l) o i
  pub serial-is : serial_of l' ≡ at (serial_of l) o serial
  pub size_is : size_of l' ≡ at (size_of l) o size
  pub next-object-is : next_object_of l' ≡ at (next_object_of l) o (get_or l Layout.OBJECTS 0)
  pub first-block-is : first_block_of l' ≡ first_block_of l₁
  pub next-block-is : next_block_of l' ≡ next_block_of l₁
  pub owner-same : owner_of l' ≡ owner_of l
  pub parent-same : parent_of l' ≡ parent_of l
  pub first-child-same : first_child_of l' ≡ first_child_of l
  pub next-cap-same : next_cap_of l' ≡ next_cap_of l
  pub prev-cap-same : prev_cap_of l' ≡ prev_cap_of l
  pub rights-same : rights_of l' ≡ rights_of l
  pub last-day-same : last_day_of l' ≡ last_day_of l
  pub day-same : get_or l' Layout.DAY 0 ≡ get_or l Layout.DAY 0
  pub objects-head : get_or l' Layout.OBJECTS 0 ≡ o
  pub free-objects-head : free_object l' ≡ next_object_of l o
  pub free-caps-head : free_cap l' ≡ free_cap l
  pub free-blocks-head : free_head l' ≡ free_head l₁

module _ (l : List ℕ) (o serial size i : ℕ) (S : ObjectSlot o) (n : ℕ) (E : Enough l n) where
  abbrev l₁ : List ℕ
  l₁ = taken_links l o n

  abbrev link_stores : List Put
  link_stores =
      put 64 Layout.MASTER o i
      ∷ put 64 Layout.SIZE o size
      ∷ put 64 Layout.SERIAL o serial
      ∷ put 0 Layout.OBJECTS 0 o
      ∷ put 64 Layout.NEXT_OBJECT o (get_or l₁ Layout.OBJECTS 0)
      ∷ put 0 Layout.FREE_OBJECTS 0 (next_object_of l₁ o)
      ∷ []

  links-within : Within link_stores
  links-within = (S.high, (S.high, (S.high, (omega arith, (S.high, (omega arith, tt))))))

  last : Last l E.links o S.low S.high n
  last = last-enough l E.links o S.low S.high n E

  long₁ : length l₁ ≡ Layout.LINKS
  long₁ = taken-length l E.links o S.low S.high n ∙ E.links

  -- a row, or a head, that neither writes
  abbrev cut : List Put
  cut =
      put 64 Layout.FIRST_BLOCK o (free_head l)
      ∷ put 512 Layout.NEXT_BLOCK (free_block l 0) 0
      ∷ put 0 Layout.FREE_BLOCKS 0 (next_block_of l (free_block l 0))
      ∷ []

  abbrev none : List Put
  none = put 64 Layout.FIRST_BLOCK o 0 ∷ []

  was-row : (k off : ℕ) → beside (suc k) off cut ≡ true → beside (suc k) off none ≡ true
      → field k off l₁ ≡ field k off l
  was-row = taken-row l E.links o S.low S.high n last

  was-head : (h : ℕ) → h < Layout.LINKS → beside 1 h cut ≡ true → beside 1 h none ≡ true → get_or l₁ h 0 ≡ get_or l h 0
  was-head = taken-head l E.links o S.low S.high n last

  kept : (k off : ℕ) → beside (suc k) off link_stores ≡ true → beside (suc k) off cut ≡ true
      → beside (suc k) off none ≡ true → field k off (puts link_stores l₁) ≡ field k off l
  kept k off t u v = field-kept k off l₁ link_stores t links-within ∙ was-row k off u v

  pub recorded : Recorded l l₁ (object_links l o n serial size i) o serial size i
  unfolding object_links record_links
  recorded = record {
    long = length-puts link_stores l₁ ∙ taken-length l E.links o S.low S.high n;
    master-is = field_puts 64 Layout.MASTER l₁ (omega (arith, long₁)) link_stores refl links-within
        (S.low, (tt, (tt, (tt, (tt, (tt, tt))))))
        ∙ (λ k. at (was-row 64 Layout.MASTER refl refl k) o i);
    serial-is = field_puts 64 Layout.SERIAL l₁ (omega (arith, long₁)) link_stores refl links-within
        (tt, (tt, (S.low, (tt, (tt, (tt, tt))))))
        ∙ (λ k. at (was-row 64 Layout.SERIAL refl refl k) o serial);
    size_is = field_puts 64 Layout.SIZE l₁ (omega (arith, long₁)) link_stores refl links-within
        (tt, (S.low, (tt, (tt, (tt, (tt, tt))))))
        ∙ (λ k. at (was-row 64 Layout.SIZE refl refl k) o size);
    next-object-is = field_puts 64 Layout.NEXT_OBJECT l₁ (omega (arith, long₁)) link_stores refl links-within
        (tt, (tt, (tt, (tt, (S.low, (tt, tt))))))
        ∙ (λ k. at (was-row 64 Layout.NEXT_OBJECT refl refl k) o (was-head Layout.OBJECTS (omega arith) refl refl k));
    first-block-is = field-kept 64 Layout.FIRST_BLOCK l₁ link_stores refl links-within;
    next-block-is = field-kept 512 Layout.NEXT_BLOCK l₁ link_stores refl links-within;
    owner-same = kept 512 Layout.OWNER refl refl refl;
    parent-same = kept 512 Layout.PARENT refl refl refl;
    first-child-same = kept 512 Layout.FIRST_CHILD refl refl refl;
    next-cap-same = kept 512 Layout.NEXT_CAP refl refl refl;
    prev-cap-same = kept 512 Layout.PREV_CAP refl refl refl;
    rights-same = kept 512 Layout.RIGHTS refl refl refl;
    last-day-same = kept 512 Layout.LAST_DAY refl refl refl;
    day-same = head-kept Layout.DAY l₁ link_stores refl links-within ∙ was-head Layout.DAY (omega arith) refl refl;
    objects-head = head_puts Layout.OBJECTS l₁ (omega (arith, long₁)) link_stores refl links-within;
    free-objects-head = head_puts Layout.FREE_OBJECTS l₁ (omega (arith, long₁)) link_stores refl links-within
        ∙ (λ k. was-row 64 Layout.NEXT_OBJECT refl refl k o);
    free-caps-head = head-kept Layout.FREE_CAPS l₁ link_stores refl links-within
        ∙ was-head Layout.FREE_CAPS (omega arith) refl refl;
    free-blocks-head = head-kept Layout.FREE_BLOCKS l₁ link_stores refl links-within;
  }
