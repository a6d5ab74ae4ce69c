-- Each field of the slices by its slot, 0 outside its slots.
use Rattle.std.specs.Prelude.{ℕ, ◌+◌, ◌-◌, true, false, ◌&&◌, List, leb, get_or, take, drop}
use Rattle.rules.specs.Limit as Limit
use Rattle.layout.specs.Layout as Layout

-- the cell of slot i, 1 to n, in the row that starts at off, and `none` at any other i
unfoldable pub cell_of : {A : Type 0} → A → ℕ → ℕ → List A → ℕ → A
cell_of none n off l i = elim (leb 1 i && leb i n) [ true ↦ get_or l (off + i) none | false ↦ none ]

-- the same of numbers, with 0 for none
abbrev pub field : ℕ → ℕ → List ℕ → ℕ → ℕ
field n off l i = cell_of 0 n off l i

-- n cells from off on
unfoldable pub region : ℕ → ℕ → List ℕ → List ℕ
region n off l = take n (drop off l)

-- ---- the bytes

abbrev pub volume_of : List ℕ → ℕ → ℕ
volume_of b = field Limit.objects Layout.VOLUME b

abbrev pub flag_of : List ℕ → ℕ → ℕ
flag_of b = field Limit.objects Layout.FLAG b

abbrev pub suspended_of : List ℕ → ℕ → ℕ
suspended_of b = field Limit.objects Layout.SUSPENDED b

abbrev pub waiting_of : List ℕ → ℕ → ℕ
waiting_of b = field Limit.objects Layout.WAITING b

abbrev pub terminated_of : List ℕ → ℕ → ℕ
terminated_of b = field Limit.objects Layout.TERMINATED b

abbrev pub count_of : List ℕ → ℕ → ℕ
count_of b = field Limit.objects Layout.COUNT b

abbrev pub length_of : List ℕ → ℕ → ℕ
length_of b = field Layout.MESSAGE_SLOTS Layout.LENGTH b

abbrev pub text_in : List ℕ → List ℕ
text_in b = region (Layout.DATA - Layout.TEXT) Layout.TEXT b

abbrev pub data_in : List ℕ → List ℕ
data_in b = region (Layout.BYTES - Layout.DATA) Layout.DATA b

-- ---- the links

abbrev pub master_of : List ℕ → ℕ → ℕ
master_of l = field Limit.objects Layout.MASTER l

abbrev pub serial_of : List ℕ → ℕ → ℕ
serial_of l = field Limit.objects Layout.SERIAL l

abbrev pub size_of : List ℕ → ℕ → ℕ
size_of l = field Limit.objects Layout.SIZE l

abbrev pub first_block_of : List ℕ → ℕ → ℕ
first_block_of l = field Limit.objects Layout.FIRST_BLOCK l

abbrev pub next_object_of : List ℕ → ℕ → ℕ
next_object_of l = field Limit.objects Layout.NEXT_OBJECT l

abbrev pub owner_of : List ℕ → ℕ → ℕ
owner_of l = field Limit.caps Layout.OWNER l

abbrev pub parent_of : List ℕ → ℕ → ℕ
parent_of l = field Limit.caps Layout.PARENT l

abbrev pub first_child_of : List ℕ → ℕ → ℕ
first_child_of l = field Limit.caps Layout.FIRST_CHILD l

abbrev pub next_cap_of : List ℕ → ℕ → ℕ
next_cap_of l = field Limit.caps Layout.NEXT_CAP l

abbrev pub prev_cap_of : List ℕ → ℕ → ℕ
prev_cap_of l = field Limit.caps Layout.PREV_CAP l

abbrev pub rights_of : List ℕ → ℕ → ℕ
rights_of l = field Limit.caps Layout.RIGHTS l

abbrev pub next_block_of : List ℕ → ℕ → ℕ
next_block_of l = field Limit.blocks Layout.NEXT_BLOCK l

abbrev pub last_day_of : List ℕ → ℕ → ℕ
last_day_of l = field Limit.caps Layout.LAST_DAY l

-- ---- the words

abbrev pub cash_of : List ℕ → ℕ → ℕ
cash_of w = field Limit.objects Layout.CASH w

abbrev pub lock1_of : List ℕ → ℕ → ℕ
lock1_of w = field Limit.objects Layout.LOCK1 w

abbrev pub lock2_of : List ℕ → ℕ → ℕ
lock2_of w = field Limit.objects Layout.LOCK2 w

abbrev pub sum_of : List ℕ → ℕ → ℕ
sum_of w = field Layout.MESSAGE_SLOTS Layout.SUM w

abbrev pub p1_of : List ℕ → ℕ → ℕ
p1_of w = field Limit.caps Layout.P1 w

abbrev pub p2_of : List ℕ → ℕ → ℕ
p2_of w = field Limit.caps Layout.P2 w

abbrev pub money_of : List ℕ → ℕ → ℕ
money_of w = field Limit.caps Layout.MONEY w

abbrev pub start_of : List ℕ → ℕ → ℕ
start_of w = field Limit.caps Layout.START w

abbrev pub end_of : List ℕ → ℕ → ℕ
end_of w = field Limit.caps Layout.END w
