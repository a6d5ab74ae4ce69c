-- The limits by name, each number once on this side: 01, "The store", and the "Argument ranges for 2", with what 02 has of them.
use Rattle.std.specs.Prelude.{ℕ}

-- "Volumes are 0 to 3."
abbrev pub volume : ℕ
volume = 3

-- "a serial, 0 to 65,535"
abbrev pub serial : ℕ
serial = 65535

-- "At most 64 objects live."
abbrev pub objects : ℕ
objects = 64

-- "a size of 0 to 8,192 bytes"
abbrev pub size : ℕ
size = 8192

-- "held in blocks of 64 bytes, 512 in all"
abbrev pub block : ℕ
block = 64

abbrev pub blocks : ℕ
blocks = 512

-- "At most 512 live in the store.", of capabilities
abbrev pub caps : ℕ
caps = 512

-- "a box of at most 4 messages"
abbrev pub box : ℕ
box = 4

-- "A message is 0 to 16 bytes"
abbrev pub message : ℕ
message = 16

-- "Rights add up, 0 to 8191"
abbrev pub rights : ℕ
rights = 8191

-- "a read or write of at most 256 bytes"
abbrev pub transfer : ℕ
transfer = 256

-- "answer buffer of at least 256 bytes"
abbrev pub buffer : ℕ
buffer = 256

-- 02, CR 6: "a scratch of 16 16-bit numbers, where 512 were needed"
abbrev pub scratch : ℕ
scratch = 16

-- "a lock's first word below 2,147,483,648"; "If the presented p1 is 2,147,483,648 or more"
abbrev pub top : ℕ
top = 2147483648

-- the largest 32-bit number: "the money total is at most 4,294,967,295"
abbrev pub word : ℕ
word = 4294967295

-- 02, CR 8: "the 2 to the power 64 passwords": each half is below this
abbrev pub half : ℕ
half = 4294967296

-- the limit of a derive line that has none; 02, CR 11: "A derive_cap line without a limit now gives moneyword 0."
abbrev pub default_limit : ℕ
default_limit = 0

-- 02, CR 9: "The store holds a day, 0 to 65,535"; "A day or a last day above 65,535 is 2."; of last days, "A master's is 65,535."
abbrev pub day : ℕ
day = 65535

-- the last day of a derive line that has none: "a line without it takes the parent's", which is never above this
abbrev pub default_last_day : ℕ
default_last_day = day

-- 02, CR 10: "gives up to 32 capabilities"
abbrev pub entries : ℕ
entries = 32

-- a capability in such a list is four numbers: volume, serial, p1, p2
abbrev pub entry : ℕ
entry = 4

-- a byte, of write and of send, as a number of a line
abbrev pub byte : ℕ
byte = 255
