-- 01, "A store is well formed when", in meaning: its ranges, unique names and p1, one tree with one master for each
-- object, children in their parents, lockwords, the money total. Chains, links and lengths are the slices' own.
-- Each part speaks of the parts of a state that it depends on, so a call that leaves those alone keeps it as it stands.
use Rattle.std.specs.Prelude.{ℕ, ◌≤◌, ◌<◌, ◌≡◌, ◌≢◌, true, false, List, [], ◌∷◌, length}
use Rattle.std.specs.Int.Bits.{bit_and}
use Rattle.rules.specs.Limit as Limit
use Rattle.rules.specs.Slots.{sum_over}
use Rattle.rules.specs.Store.{Window, Lockword, Message, Object, Cap, State, no_object, no_cap}
use Rattle.rules.specs.Store.{no_lockword, no_marks, blocks, money_in}

-- ---- objects: volumes are 0 to 3, serials 0 to 65,535, at most 64 objects live, sizes are 0 to 8,192

pub record LiveObject (o : ℕ) (x : Object) : Type 0 where
  pub some : 1 ≤ o
  pub low : o ≤ Limit.objects
  pub volume : x.name.volume ≤ Limit.volume
  pub serial : x.name.serial ≤ Limit.serial
  pub size : x.size ≤ Limit.size

pub record Objects (object : ℕ → Object) : Type 0 where
  pub live : (o : ℕ) → (object o).live ≡ true → LiveObject o (object o)
  pub free : (o : ℕ) → (object o).live ≡ false → object o ≡ no_object
  -- a serial is unique on its volume
  pub names : (o q : ℕ) → (object o).live ≡ true → (object q).live ≡ true → (object o).name ≡ (object q).name → o ≡ q
  -- 512 blocks in all
  pub room : sum_over Limit.objects (λ o. blocks (object o).size) ≤ Limit.blocks

-- ---- capabilities: at most 512 live, their words are 32-bit, their rights 0 to 8191

abbrev pub Lives : (ℕ → Cap) → ℕ → Type 0
Lives cap i = (cap i).object ≢ 0

pub record LiveCap (object : ℕ → Object) (i : ℕ) (x : Cap) : Type 0 where
  pub some : 1 ≤ i
  pub low : i ≤ Limit.caps
  pub p1 : x.password.p1 ≤ Limit.word
  pub p2 : x.password.p2 ≤ Limit.word
  pub rights : x.rights ≤ Limit.rights
  pub ordered : x.window.start ≤ x.window.end
  pub owned : (object x.object).live ≡ true

-- window v lies in window w: its start is not before w's start and its end not after w's end
pub record LiesIn (v w : Window) : Type 0 where
  pub start : w.start ≤ v.start
  pub end : v.end ≤ w.end

-- the child's rights and window lie in its parent's, and it is of the parent's object; 02, CR 9: the parent's last day is at
-- or after the child's
pub record ChildIn (child parent : Cap) : Type 0 where
  pub object : child.object ≡ parent.object
  pub rights : bit_and child.rights parent.rights ≡ child.rights
  pub window : LiesIn child.window parent.window
  pub last_day : child.last_day ≤ parent.last_day

-- a climb by parents that ends: xs are the slots from i up to the last one before 0
pub data Climbs (parent : ℕ → ℕ) : ℕ → List ℕ → Type 0 where
  top : Climbs parent 0 []
  step : {i : ℕ} {xs : List ℕ} → i ≢ 0 → Climbs parent (parent i) xs → Climbs parent i (i ∷ xs)

pub record Caps (object : ℕ → Object) (cap : ℕ → Cap) : Type 0 where
  pub live : (i : ℕ) → Lives cap i → LiveCap object i (cap i)
  pub free : (i : ℕ) → (cap i).object ≡ 0 → cap i ≡ no_cap
  -- p1 is unique in its object
  pub passwords : (i j : ℕ) → Lives cap i → Lives cap j → (cap i).object ≡ (cap j).object
      → (cap i).password.p1 ≡ (cap j).password.p1 → i ≡ j
  -- an object has one master
  pub masters : (i j : ℕ) → Lives cap i → Lives cap j → (cap i).object ≡ (cap j).object
      → (cap i).parent ≡ 0 → (cap j).parent ≡ 0 → i ≡ j
  -- every climb by parents ends, by `parent`, `within` and `masters` at that master
  pub ends : (i : ℕ) → Lives cap i → (xs : List ℕ) × Climbs (λ j. (cap j).parent) i xs
  pub parent : (i : ℕ) → Lives cap i → (cap i).parent ≢ 0 → Lives cap (cap i).parent
  pub within : (i : ℕ) → Lives cap i → (cap i).parent ≢ 0 → ChildIn (cap i) (cap (cap i).parent)

-- the master of the object in slot o: its window is 0 to the size, its last day 65,535
pub record IsMaster (o size : ℕ) (x : Cap) : Type 0 where
  pub of : x.object ≡ o
  pub parent : x.parent ≡ 0
  pub start : x.window.start ≡ 0
  pub end : x.window.end ≡ size
  pub last_day : x.last_day ≡ Limit.day

-- ---- processes

-- what only a process has is zero elsewhere
abbrev pub ProcessOnly : {A : Type 0} → (ℕ → Object) → (ℕ → A) → A → Type 0
ProcessOnly object f z = (o : ℕ) → (object o).process ≡ false → f o ≡ z

-- a lockword's first word is below 2,147,483,648
pub record LockwordFits (x : Lockword) : Type 0 where
  pub first : x.first < Limit.top
  pub second : x.second ≤ Limit.word

-- a message is 0 to 16 bytes
abbrev pub Short : List Message → Type 0
Short [] = Unit {0}
Short (m ∷ l) = (length m.bytes ≤ Limit.message) × Short l

-- a box of at most 4 messages
pub record BoxFits (l : List Message) : Type 0 where
  pub room : length l ≤ Limit.box
  pub short : Short l

-- ---- the whole

-- all but the money total
pub record Formed (s : State) : Type 0 where
  pub objects : Objects s.object
  pub caps : Caps s.object s.cap
  -- every object has a master
  pub master : (o : ℕ) → (s.object o).live ≡ true → (i : ℕ) × IsMaster o (s.object o).size (s.cap i)
  pub bytes : (o : ℕ) → length (s.bytes o) ≡ (s.object o).size
  pub lock : (o : ℕ) → LockwordFits (s.lock o)
  pub box : (o : ℕ) → BoxFits (s.box o)
  pub no-lock : ProcessOnly s.object s.lock no_lockword
  pub no-cash : ProcessOnly s.object s.cash 0
  pub no-marks : ProcessOnly s.object s.marks no_marks
  pub no-box : ProcessOnly s.object s.box []
  pub money : (i : ℕ) → s.money i ≤ Limit.word
  pub no-money : (i : ℕ) → (s.cap i).object ≡ 0 → s.money i ≡ 0

pub record Valid (s : State) : Type 0 where
  pub formed : Formed s
  -- the money total is at most 4,294,967,295
  pub total : money_in s ≤ Limit.word
  -- 02, CR 9: the day is 0 to 65,535
  pub day : s.day ≤ Limit.day
