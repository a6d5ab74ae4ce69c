-- 01, "Rights and fees": the thirteen rights, the sixteen calls in call order, their fees, and the right each asks.
use Rattle.std.specs.Prelude.{ℕ, zero, suc, Bool, not, List, [], ◌∷◌, eqb, get_or}
use Rattle.std.specs.Int.Bits.{bit_and}
use Rattle.rules.specs.Slots.{mem}

-- ---- rights add up, 0 to 8191

abbrev pub READ : ℕ
READ = 1

abbrev pub WRITE : ℕ
WRITE = 2

abbrev pub CAP_INFO : ℕ
CAP_INFO = 4

abbrev pub DERIVE_CAP : ℕ
DERIVE_CAP = 8

abbrev pub DELETE_CAP : ℕ
DELETE_CAP = 16

abbrev pub RENAME_OBJ : ℕ
RENAME_OBJ = 32

abbrev pub WITHDRAW : ℕ
WITHDRAW = 64

abbrev pub DEPOSIT : ℕ
DEPOSIT = 128

abbrev pub SUSPEND : ℕ
SUSPEND = 256

abbrev pub RESUME : ℕ
RESUME = 512

abbrev pub APPLY_LOCK : ℕ
APPLY_LOCK = 1024

abbrev pub SEND : ℕ
SEND = 2048

abbrev pub REVIVE : ℕ
REVIVE = 4096

unfoldable pub thirteen : List ℕ
thirteen =
    READ
    ∷ WRITE
    ∷ CAP_INFO
    ∷ DERIVE_CAP
    ∷ DELETE_CAP
    ∷ RENAME_OBJ
    ∷ WITHDRAW
    ∷ DEPOSIT
    ∷ SUSPEND
    ∷ RESUME
    ∷ APPLY_LOCK
    ∷ SEND
    ∷ REVIVE
    ∷ []

-- it is one of the thirteen
unfoldable pub is_right : ℕ → Bool
is_right right = mem right thirteen

-- the rights hold this right
unfoldable pub has : ℕ → ℕ → Bool
has rights right = eqb (bit_and rights right) right

-- the rights in both sets
unfoldable pub both : ℕ → ℕ → ℕ
both a b = bit_and a b

-- ---- calls, in call order 1 to 16

pub data Op : Type 0 where
  make_obj read write cap_info derive_cap delete_cap rename_obj withdraw : Op
  deposit suspend resume apply_lock send receive wait revive : Op
  -- any other number: no call of a process
  unknown : Op

unfoldable pub op : ℕ → Op
op number = get_or
    (unknown
    ∷ make_obj ∷ read ∷ write ∷ cap_info
    ∷ derive_cap ∷ delete_cap ∷ rename_obj ∷ withdraw
    ∷ deposit ∷ suspend ∷ resume ∷ apply_lock
    ∷ send ∷ receive ∷ wait ∷ revive ∷ [])
    number unknown

-- numbers by name, of the calls that a product above the store makes by itself, and of the one that 02's CR 10 speaks of
abbrev pub read_number : ℕ
read_number = 2

abbrev pub write_number : ℕ
write_number = 3

abbrev pub derive_number : ℕ
derive_number = 5

abbrev pub withdraw_number : ℕ
withdraw_number = 8

-- 02, CR 9: "The host sets the day by call 17"; it is no call of a process
abbrev pub day_number : ℕ
day_number = 17

-- the sixteen fees, in call order
unfoldable pub fees : List ℕ
fees = 20 ∷ 1 ∷ 2 ∷ 1 ∷ 5 ∷ 5 ∷ 10 ∷ 2 ∷ 2 ∷ 1 ∷ 1 ∷ 5 ∷ 2 ∷ 1 ∷ 0 ∷ 5 ∷ []

-- the fee of a call: the table at the call's number less one
unfoldable pub fee_of : ℕ → ℕ
fee_of zero = 0
fee_of (suc n) = get_or fees n 0

-- the right asked of the capability presented, 0 where none is presented
unfoldable pub asked : Op → ℕ
asked make_obj = 0
asked read = READ
asked write = WRITE
asked cap_info = CAP_INFO
asked derive_cap = DERIVE_CAP
asked delete_cap = DELETE_CAP
asked rename_obj = RENAME_OBJ
asked withdraw = WITHDRAW
asked deposit = DEPOSIT
asked suspend = SUSPEND
asked resume = RESUME
asked apply_lock = APPLY_LOCK
asked send = SEND
asked receive = 0
asked wait = 0
asked revive = REVIVE
asked unknown = 0

-- the call presents a capability
unfoldable pub presents : Op → Bool
unfolding asked
presents o = not (eqb (asked o) 0)

-- a theorem that computes with this file's definitions says `unfolding` and this name
unfoldable pub computes : Unit {0}
unfolding thirteen is_right has both op fees fee_of asked presents
computes = tt
