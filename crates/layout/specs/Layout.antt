-- Where each field stands in the three slices: the only numbers of the layout on this side; src/lib.rt has the same.
-- A field has a row of cells, one for each slot; the cell of slot 0 is no record's. Objects have slots 1 to 64,
-- capabilities and blocks 1 to 512. Message m, 0 to 3, of object o has slot 4 o + m. docs/LAYOUT.md has the table.
use Rattle.std.specs.Prelude.{ℕ}

-- the last slot of a message
abbrev pub MESSAGE_SLOTS : ℕ
MESSAGE_SLOTS = 259

-- ---- the bytes

-- an object's volume, 0 to 3
abbrev pub VOLUME : ℕ
VOLUME = 0

-- 1 for a process, 0 for a data object
abbrev pub FLAG : ℕ
FLAG = 65

-- a process's marks, 1 set, 0 clear
abbrev pub SUSPENDED : ℕ
SUSPENDED = 130

abbrev pub WAITING : ℕ
WAITING = 195

abbrev pub TERMINATED : ℕ
TERMINATED = 260

-- how many messages are in a process's box
abbrev pub COUNT : ℕ
COUNT = 325

-- how many bytes a message has
abbrev pub LENGTH : ℕ
LENGTH = 390

-- 16 bytes for each message
abbrev pub TEXT : ℕ
TEXT = 650

-- 64 bytes for each block
abbrev pub DATA : ℕ
DATA = 4810

-- the length of the slice
abbrev pub BYTES : ℕ
BYTES = 37642

-- ---- the 16-bit links

-- the head of the chain of objects
abbrev pub OBJECTS : ℕ
OBJECTS = 0

-- the heads of the chains of free records
abbrev pub FREE_OBJECTS : ℕ
FREE_OBJECTS = 1

abbrev pub FREE_CAPS : ℕ
FREE_CAPS = 2

abbrev pub FREE_BLOCKS : ℕ
FREE_BLOCKS = 3

-- an object's master, 0 in a free record
abbrev pub MASTER : ℕ
MASTER = 4

-- its serial
abbrev pub SERIAL : ℕ
SERIAL = 69

-- its size
abbrev pub SIZE : ℕ
SIZE = 134

-- its first block
abbrev pub FIRST_BLOCK : ℕ
FIRST_BLOCK = 199

-- the next object, or free record
abbrev pub NEXT_OBJECT : ℕ
NEXT_OBJECT = 264

-- a capability's object, 0 in a free record
abbrev pub OWNER : ℕ
OWNER = 329

-- its parent, 0 for a master
abbrev pub PARENT : ℕ
PARENT = 842

-- its first child
abbrev pub FIRST_CHILD : ℕ
FIRST_CHILD = 1355

-- its next sibling, or the next free record
abbrev pub NEXT_CAP : ℕ
NEXT_CAP = 1868

-- its previous sibling
abbrev pub PREV_CAP : ℕ
PREV_CAP = 2381

-- its rights
abbrev pub RIGHTS : ℕ
RIGHTS = 2894

-- the next block of the object, or free block
abbrev pub NEXT_BLOCK : ℕ
NEXT_BLOCK = 3407

-- 02, CR 9: a capability's last day
abbrev pub LAST_DAY : ℕ
LAST_DAY = 3920

-- the store's day
abbrev pub DAY : ℕ
DAY = 4433

-- the length of the slice
abbrev pub LINKS : ℕ
LINKS = 4434

-- ---- the 32-bit words

-- what the house holds
abbrev pub HOUSE : ℕ
HOUSE = 0

-- a process's cash
abbrev pub CASH : ℕ
CASH = 1

-- its lockword
abbrev pub LOCK1 : ℕ
LOCK1 = 66

abbrev pub LOCK2 : ℕ
LOCK2 = 131

-- a message's sum
abbrev pub SUM : ℕ
SUM = 196

-- a capability's password
abbrev pub P1 : ℕ
P1 = 456

abbrev pub P2 : ℕ
P2 = 969

-- its moneyword
abbrev pub MONEY : ℕ
MONEY = 1482

-- its window
abbrev pub START : ℕ
START = 1995

abbrev pub END : ℕ
END = 2508

-- the length of the slice
abbrev pub WORDS : ℕ
WORDS = 3021
