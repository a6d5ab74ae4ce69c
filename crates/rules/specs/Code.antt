-- 01's refusals by name, each number once on this side: "What each call refuses, in order"; then those that 02 adds.
use Rattle.std.specs.Prelude.{ℕ}

-- the call was done
abbrev pub done : ℕ
done = 0

-- "the store is not well formed"
abbrev pub ill_formed : ℕ
ill_formed = 1

-- "unknown call or an argument out of range"
abbrev pub out_of_range : ℕ
out_of_range = 2

-- "the caller is absent, a data object, suspended, waiting or terminated"
abbrev pub not_running : ℕ
not_running = 3

-- "cash below the fee, and the caller becomes terminated"
abbrev pub cannot_pay : ℕ
cannot_pay = 4

-- "no such object or password"
abbrev pub not_found : ℕ
not_found = 5

-- "right missing"
abbrev pub right_missing : ℕ
right_missing = 6

-- "the range is not inside the window"
abbrev pub outside_window : ℕ
outside_window = 7

-- "not a process"
abbrev pub not_process : ℕ
not_process = 8

-- "the caller's cash is below the sum"; of withdraw, "some moneyword .. is below the sum"
abbrev pub too_little : ℕ
too_little = 9

-- "a moneyword on the climb would pass 4,294,967,295"
abbrev pub overflows : ℕ
overflows = 10

-- "not a master"
abbrev pub not_master : ℕ
not_master = 11

-- "the serial is taken on that volume"; "p1 is taken in the object"
abbrev pub taken : ℕ
taken = 12

-- "64 objects or 512 capabilities live, or too few free blocks"
abbrev pub no_space : ℕ
no_space = 13

-- "four messages in the box"
abbrev pub box_full : ℕ
box_full = 14

-- "the box is empty"
abbrev pub box_empty : ℕ
box_empty = 15

-- "not terminated, or sum 0"
abbrev pub not_revivable : ℕ
not_revivable = 16

-- 02, CR 3: "the window is not N × W bytes long"
abbrev pub wrong_length : ℕ
wrong_length = 17

-- 02, CR 7: "the count would pass 4,294,967,295"
abbrev pub count_passes : ℕ
count_passes = 18

-- 02, CR 9: "the store's day is after the capability's last day"
abbrev pub expired : ℕ
expired = 19

-- "the new day is before the store's"
abbrev pub earlier_day : ℕ
earlier_day = 20

-- 02, CR 10: "none in the list will do"
abbrev pub none_will_do : ℕ
none_will_do = 21
