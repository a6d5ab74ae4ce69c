-- make_obj's own part, exactly: its refusals by tests on the cells, and what it does by stores to them. The slices are
-- those that the fee left; `o` is the slot that the new object takes, the first free one.
use Rattle.std.specs.Prelude.{ℕ, ◌+◌, ◌≤◌, ◌≡◌, ◌≢◌, Bool, not, ◌||◌, List, [], ◌∷◌, eqb, length, get_or, set}
use Rattle.rules.specs.Code as Code
use Rattle.rules.specs.Limit as Limit
use Rattle.rules.specs.Store.{Name, Password, Cap, blocks, object_named}
use Rattle.rules.specs.Call.{hands_back}
use Rattle.rules.specs.Refusals.{◌when◌, first}
use Rattle.layout.specs.Layout as Layout
use Rattle.layout.specs.Rows.{master_of, first_block_of, next_object_of, next_block_of}
use Rattle.layout.specs.View.{view}
use Rattle.layout.specs.Shape.{Chain, times}
use Rattle.layout.specs.WellFormed.{Sized}
use Rattle.call_steps.specs.Run.{Ran, settled}
use Rattle.call_steps.specs.Tests.{ObjectSlot, CapSlot}
use Rattle.call_blocks.specs.Taking.{free_head, too_few, cleared_bytes, taken_links, FreeChain, Enough}
use Rattle.call_grow.specs.declared.cap.NewCap.{NewCap}
use Rattle.call_grow.specs.Made.{cap_of, free_cap, new_links, new_words}

-- ---- 12 the serial is taken on that volume; 13 64 objects or 512 capabilities live, or too few free blocks

-- the first free record of an object, 0 if there is none
abbrev pub free_object : List ℕ → ℕ
free_object l = get_or l Layout.FREE_OBJECTS 0

-- for an object of n blocks
unfoldable pub no_space : List ℕ → ℕ → Bool
no_space l n = eqb (free_object l) 0 || eqb (free_cap l) 0 || too_few l n

unfoldable pub make_stop : List ℕ → List ℕ → List ℕ → Name → ℕ → ℕ
make_stop b l w name size = first
    (Code.taken when not (eqb (object_named (view b l w) name) 0)
    ∷ Code.no_space when no_space l (blocks size)
    ∷ [])

-- ---- the object's record

-- a process is suspended, not waiting, not terminated, its box empty
unfoldable pub record_bytes : List ℕ → ℕ → ℕ → ℕ → List ℕ
record_bytes b o volume flag =
    let named : List ℕ = set (set b (Layout.VOLUME + o) volume) (Layout.FLAG + o) flag in
    let marked : List ℕ = set (set named (Layout.SUSPENDED + o) 1) (Layout.WAITING + o) 0 in
    set (set marked (Layout.TERMINATED + o) 0) (Layout.COUNT + o) 0

-- o leaves the chain of free objects for that of objects; its master is to be in slot i
unfoldable pub record_links : List ℕ → ℕ → ℕ → ℕ → ℕ → List ℕ
record_links l o serial size i =
    let popped : List ℕ = set l Layout.FREE_OBJECTS (next_object_of l o) in
    let linked : List ℕ = set (set popped (Layout.NEXT_OBJECT + o) (get_or l Layout.OBJECTS 0)) Layout.OBJECTS o in
    set (set (set linked (Layout.SERIAL + o) serial) (Layout.SIZE + o) size) (Layout.MASTER + o) i

-- its cash and lockword 0
unfoldable pub record_words : List ℕ → ℕ → List ℕ
record_words w o = set (set (set w (Layout.CASH + o) 0) (Layout.LOCK1 + o) 0) (Layout.LOCK2 + o) 0

-- ---- with its n blocks, and its master

-- the rules' `made_master`: the whole window, the rights given and the last day 65,535
unfoldable pub master_cap : ℕ → ℕ → ℕ → Password → Cap
master_cap o size rights password = record {
  object = o;
  parent = 0;
  password = password;
  window = record { start = 0; end = size };
  rights = rights;
  last_day = Limit.day;
}

unfoldable pub made_bytes : List ℕ → List ℕ → ℕ → ℕ → ℕ → ℕ → List ℕ
made_bytes b l o n volume flag = record_bytes (cleared_bytes b l n) o volume flag

unfoldable pub object_links : List ℕ → ℕ → ℕ → ℕ → ℕ → ℕ → List ℕ
object_links l o n serial size i = record_links (taken_links l o n) o serial size i

-- x, the master, takes the first free capability, with no sibling
unfoldable pub made_links : List ℕ → ℕ → ℕ → ℕ → ℕ → Cap → List ℕ
made_links l o n serial size x = new_links (object_links l o n serial size (free_cap l)) (free_cap l) x 0

-- with moneyword 0
unfoldable pub made_words : List ℕ → List ℕ → ℕ → Cap → List ℕ
made_words l w o x = new_words (record_words w o) (free_cap l) x 0

-- ---- the call

-- the object made in slot o with its master x, which is handed back as drawn
unfoldable pub made : List ℕ → List ℕ → List ℕ → ℕ → Name → ℕ → ℕ → Cap → Ran
made b l w o name size flag x = record {
  answer = (hands_back name x.password (view b l w)).answer;
  bytes = made_bytes b l o (blocks size) name.volume flag;
  links = made_links l o (blocks size) name.serial size x;
  words = made_words l w o x;
}

unfoldable pub make_run : List ℕ → List ℕ → List ℕ → Name → ℕ → ℕ → ℕ → Password → Ran
make_run b l w name size flag rights drawn = settled (make_stop b l w name size) b l w
    (made b l w (free_object l) name size flag (master_cap (free_object l) size rights drawn))

-- ---- its blocks were free

-- the blocks of the object in slot o of the links l' are all in the chain of free blocks of l
pub record WereFree (l l' : List ℕ) (o : ℕ) : Type 0 where
  pub blocks : List ℕ
  pub chain : Chain Limit.blocks (next_block_of l') (first_block_of l' o) blocks
  pub free : List ℕ
  pub free-chain : Chain Limit.blocks (next_block_of l) (free_head l) free
  pub were : (k : ℕ) → 1 ≤ times k blocks → 1 ≤ times k free

-- so are those of every object of l' that does not live in l
abbrev pub NewWereFree : List ℕ → List ℕ → Type 0
NewWereFree l l' = (o : ℕ) → master_of l o ≡ 0 → master_of l' o ≢ 0 → WereFree l l' o

-- ---- what the code asks

pub record Arguments (name : Name) (size flag rights : ℕ) : Type 0 where
  pub volume : name.volume ≤ Limit.volume
  pub serial : name.serial ≤ Limit.serial
  pub size_fits : size ≤ Limit.size
  pub flag-fits : flag ≤ 1
  pub rights-fit : rights ≤ Limit.rights

pub record MasterAsks (o rights : ℕ) : Type 0 where
  pub slot : ObjectSlot o
  pub rights-fit : rights ≤ Limit.rights

-- r is the master of object o, to be made with no sibling
pub record IsNewMaster (o size rights : ℕ) (drawn : Password) (r : NewCap) : Type 0 where
  pub cap : cap_of r ≡ master_cap o size rights drawn
  pub next : r.next ≡ 0

pub record HoldAsks (b l : List ℕ) (o size : ℕ) : Type 0 where
  pub bytes : length b ≡ Layout.BYTES
  pub slot : ObjectSlot o
  pub enough : Enough l (blocks size)
  pub size_fits : size ≤ Limit.size

-- b' and l' are what is left of the slices b and l
pub record TakesBlocks (b l : List ℕ) (o size : ℕ) (b' l' : List ℕ) : Type 0 where
  pub bytes : b' ≡ cleared_bytes b l (blocks size)
  pub links : l' ≡ taken_links l o (blocks size)

pub record RecordAsks (b l w : List ℕ) (o : ℕ) (name : Name) (size flag : ℕ) : Type 0 where
  pub sized : Sized b l w
  pub slot : ObjectSlot o
  pub volume : name.volume ≤ Limit.volume
  pub serial : name.serial ≤ Limit.serial
  pub size_fits : size ≤ Limit.size
  pub flag-fits : flag ≤ 1

pub record Records (b l w : List ℕ) (o : ℕ) (name : Name) (size flag master : ℕ) (b' l' w' : List ℕ) : Type 0 where
  pub bytes : b' ≡ record_bytes b o name.volume flag
  pub links : l' ≡ record_links l o name.serial size master
  pub words : w' ≡ record_words w o

pub record PlaceAsks (b l w : List ℕ) (o : ℕ) (name : Name) (size flag rights : ℕ) : Type 0 where
  pub sized : Sized b l w
  pub slot : ObjectSlot o
  pub cap : CapSlot (free_cap l)
  pub enough : Enough l (blocks size)
  pub arguments : Arguments name size flag rights

pub record Places (b l w : List ℕ) (o : ℕ) (name : Name) (size flag rights : ℕ) (drawn : Password) (b' l' w' : List ℕ)
    : Type 0 where
  pub bytes : b' ≡ made_bytes b l o (blocks size) name.volume flag
  pub links : l' ≡ made_links l o (blocks size) name.serial size (master_cap o size rights drawn)
  pub words : w' ≡ made_words l w o (master_cap o size rights drawn)

pub record MakeAsks (b l w : List ℕ) (name : Name) (size flag rights : ℕ) : Type 0 where
  pub sized : Sized b l w
  pub object-high : free_object l ≤ Limit.objects
  pub cap-high : free_cap l ≤ Limit.caps
  pub free : FreeChain l
  pub arguments : Arguments name size flag rights
