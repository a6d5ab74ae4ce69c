-- The rows of the links and of the words after a capability record is made.
use Prim.Native.Nat.{ℕ, ◌≤◌}
use mathlib.Core.Path.{◌≡◌, refl, ap, ◌∙◌}
use mathlib.Core.Logic.{◌≢◌}
use mathlib.Core.List.{List, [], ◌∷◌}
use native.Mathlib.Omega.{arith}
use lib.ListN.{length, get_or}
use Rattle.rules.specs.Slots.{at}
use Rattle.rules.specs.Store.{Cap}
use Rattle.rules.proofs.Slots.{at_here, at-else}
use Rattle.layout.specs.Layout as Layout
use Rattle.layout.specs.Rows.{master_of, serial_of, size_of, first_block_of, next_object_of, next_block_of}
use Rattle.layout.specs.Rows.{owner_of, parent_of, first_child_of, next_cap_of, prev_cap_of, rights_of, last_day_of}
use Rattle.layout.specs.Rows.{cash_of, lock1_of, lock2_of, sum_of, p1_of, p2_of, money_of, start_of, end_of}
use Rattle.layout.proofs.Puts.{Put, put, length-puts, field_puts, field-kept, head_puts}
use Rattle.call_grow.specs.Made.{new_links, new_words}

-- the row g is f with v in slot i
pub record OneSlot (f g : ℕ → ℕ) (i v : ℕ) : Type 0 where
  pub here : g i ≡ v
  pub else : (j : ℕ) → j ≢ i → g j ≡ f j

pub one-slot : {f g : ℕ → ℕ} {i v : ℕ} → g ≡ at f i v → OneSlot f g i v
one-slot {f} {g} {i} {v} e = record {
  here = ap (λ (r : ℕ → ℕ). r i) e ∙ at_here f i v;
  else = λ j ne. ap (λ (r : ℕ → ℕ). r j) e ∙ at-else f i v j ne;
}

-- ---- the links

-- l' is l with the record x in slot i, out of the free list
pub record MadeLinks (l l' : List ℕ) (i : ℕ) (x : Cap) (next : ℕ) : Type 0 where
  pub long : length l' ≡ length l
  pub master-same : master_of l' ≡ master_of l
  pub serial-same : serial_of l' ≡ serial_of l
  pub size_same : size_of l' ≡ size_of l
  pub first-block-same : first_block_of l' ≡ first_block_of l
  pub next-object-same : next_object_of l' ≡ next_object_of l
  pub next-block-same : next_block_of l' ≡ next_block_of l
  pub objects-head : get_or l' Layout.OBJECTS 0 ≡ get_or l Layout.OBJECTS 0
  pub free-objects-head : get_or l' Layout.FREE_OBJECTS 0 ≡ get_or l Layout.FREE_OBJECTS 0
  pub free-blocks-head : get_or l' Layout.FREE_BLOCKS 0 ≡ get_or l Layout.FREE_BLOCKS 0
  pub day-same : get_or l' Layout.DAY 0 ≡ get_or l Layout.DAY 0
  pub free-caps-head : get_or l' Layout.FREE_CAPS 0 ≡ next_cap_of l i
  pub owner-is : OneSlot (owner_of l) (owner_of l') i x.object
  pub parent_is : OneSlot (parent_of l) (parent_of l') i x.parent
  pub first-child-is : OneSlot (first_child_of l) (first_child_of l') i 0
  pub next-cap-is : OneSlot (next_cap_of l) (next_cap_of l') i next
  pub prev-cap-is : OneSlot (prev_cap_of l) (prev_cap_of l') i 0
  pub rights-is : OneSlot (rights_of l) (rights_of l') i x.rights
  pub last-day-is : OneSlot (last_day_of l) (last_day_of l') i x.last_day

-- the stores, the last one first
abbrev link_puts : ℕ → ℕ → Cap → ℕ → List Put
link_puts after i x next =
    put 512 Layout.LAST_DAY i x.last_day
    ∷ put 512 Layout.RIGHTS i x.rights
    ∷ put 512 Layout.PREV_CAP i 0
    ∷ put 512 Layout.NEXT_CAP i next
    ∷ put 512 Layout.FIRST_CHILD i 0
    ∷ put 512 Layout.PARENT i x.parent
    ∷ put 512 Layout.OWNER i x.object
    ∷ put 0 Layout.FREE_CAPS 0 after
    ∷ []

module _ (l : List ℕ) (i : ℕ) (x : Cap) (next : ℕ) (long : length l ≡ Layout.LINKS) (low : 1 ≤ i) (high : i ≤ 512) where
  abbrev ws : List Put
  ws = link_puts (next_cap_of l i) i x next

  pub made-links : MadeLinks l (new_links l i x next) i x next
  unfolding new_links
  made-links = record {
    long = length-puts ws l;
    master-same = field-kept 64 Layout.MASTER l ws refl (omega arith);
    serial-same = field-kept 64 Layout.SERIAL l ws refl (omega arith);
    size_same = field-kept 64 Layout.SIZE l ws refl (omega arith);
    first-block-same = field-kept 64 Layout.FIRST_BLOCK l ws refl (omega arith);
    next-object-same = field-kept 64 Layout.NEXT_OBJECT l ws refl (omega arith);
    next-block-same = field-kept 512 Layout.NEXT_BLOCK l ws refl (omega arith);
    objects-head = head_puts Layout.OBJECTS l (omega arith) ws refl (omega arith);
    free-objects-head = head_puts Layout.FREE_OBJECTS l (omega arith) ws refl (omega arith);
    free-blocks-head = head_puts Layout.FREE_BLOCKS l (omega arith) ws refl (omega arith);
    day-same = head_puts Layout.DAY l (omega arith) ws refl (omega arith);
    free-caps-head = head_puts Layout.FREE_CAPS l (omega arith) ws refl (omega arith);
    owner-is = one-slot (field_puts 512 Layout.OWNER l (omega arith) ws refl (omega arith) (omega arith));
    parent_is = one-slot (field_puts 512 Layout.PARENT l (omega arith) ws refl (omega arith) (omega arith));
    first-child-is = one-slot (field_puts 512 Layout.FIRST_CHILD l (omega arith) ws refl (omega arith) (omega arith));
    next-cap-is = one-slot (field_puts 512 Layout.NEXT_CAP l (omega arith) ws refl (omega arith) (omega arith));
    prev-cap-is = one-slot (field_puts 512 Layout.PREV_CAP l (omega arith) ws refl (omega arith) (omega arith));
    rights-is = one-slot (field_puts 512 Layout.RIGHTS l (omega arith) ws refl (omega arith) (omega arith));
    last-day-is = one-slot (field_puts 512 Layout.LAST_DAY l (omega arith) ws refl (omega arith) (omega arith));
  }

-- ---- the words

-- w' is w with the record x and its moneyword in slot i
pub record MadeWords (w w' : List ℕ) (i : ℕ) (x : Cap) (moneyword : ℕ) : Type 0 where
  pub long : length w' ≡ length w
  pub house-same : get_or w' Layout.HOUSE 0 ≡ get_or w Layout.HOUSE 0
  pub cash-same : cash_of w' ≡ cash_of w
  pub lock1-same : lock1_of w' ≡ lock1_of w
  pub lock2-same : lock2_of w' ≡ lock2_of w
  pub sum_same : sum_of w' ≡ sum_of w
  pub p1-is : OneSlot (p1_of w) (p1_of w') i x.password.p1
  pub p2-is : OneSlot (p2_of w) (p2_of w') i x.password.p2
  pub start_is : OneSlot (start_of w) (start_of w') i x.window.start
  pub end_is : OneSlot (end_of w) (end_of w') i x.window.end
  pub money-is : OneSlot (money_of w) (money_of w') i moneyword

abbrev word_puts : ℕ → Cap → ℕ → List Put
word_puts i x moneyword =
    put 512 Layout.MONEY i moneyword
    ∷ put 512 Layout.END i x.window.end
    ∷ put 512 Layout.START i x.window.start
    ∷ put 512 Layout.P2 i x.password.p2
    ∷ put 512 Layout.P1 i x.password.p1
    ∷ []

module _ (w : List ℕ) (i : ℕ) (x : Cap) (moneyword : ℕ) (long : length w ≡ Layout.WORDS) (low : 1 ≤ i) (high : i ≤ 512)
  where
    abbrev vs : List Put
    vs = word_puts i x moneyword

    pub made-words : MadeWords w (new_words w i x moneyword) i x moneyword
    unfolding new_words
    made-words = record {
      long = length-puts vs w;
      house-same = head_puts Layout.HOUSE w (omega arith) vs refl (omega arith);
      cash-same = field-kept 64 Layout.CASH w vs refl (omega arith);
      lock1-same = field-kept 64 Layout.LOCK1 w vs refl (omega arith);
      lock2-same = field-kept 64 Layout.LOCK2 w vs refl (omega arith);
      sum_same = field-kept 259 Layout.SUM w vs refl (omega arith);
      p1-is = one-slot (field_puts 512 Layout.P1 w (omega arith) vs refl (omega arith) (omega arith));
      p2-is = one-slot (field_puts 512 Layout.P2 w (omega arith) vs refl (omega arith) (omega arith));
      start_is = one-slot (field_puts 512 Layout.START w (omega arith) vs refl (omega arith) (omega arith));
      end_is = one-slot (field_puts 512 Layout.END w (omega arith) vs refl (omega arith) (omega arith));
      money-is = one-slot (field_puts 512 Layout.MONEY w (omega arith) vs refl (omega arith) (omega arith));
    }
