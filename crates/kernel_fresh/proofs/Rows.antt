-- Each row of the fresh slices: zero, or zero but for one slot, or a chain of free records.
use Prim.Native.Nat.{ℕ, ◌-◌}
use mathlib.Core.Path.{◌≡◌}
use lib.Dec.{lit<, lit≤}
use lib.ListN.{get_or, length-set}
use Rattle.rules.specs.Limit as Limit
use Rattle.rules.specs.Store.{Password}
use Rattle.rules.specs.Slots.{at}
use Rattle.layout.specs.Layout as Layout
use Rattle.layout.specs.Rows.{volume_of, flag_of, suspended_of, waiting_of, terminated_of, count_of}
use Rattle.layout.specs.Rows.{master_of, serial_of, size_of, first_block_of}
use Rattle.layout.specs.Rows.{owner_of, parent_of, first_child_of, prev_cap_of, rights_of, last_day_of}
use Rattle.layout.specs.Rows.{next_object_of, next_cap_of, next_block_of}
use Rattle.layout.specs.Rows.{cash_of, lock1_of, lock2_of, p1_of, p2_of, money_of, start_of, end_of}
use Rattle.kernel_fresh.specs.Slices.{fresh_bytes, fresh_links, free_links, first_links, fresh_words}
use Rattle.kernel_fresh.proofs.Cells.{set_apart, set-slot, set_here, set_else, zero_row, zero-cell, length-zeros}
use Rattle.kernel_fresh.proofs.Chains.{length-free, free-apart, free-else, free-head, FreeTo, free-to}

ruleset rows = (set_apart, set-slot, free-apart, zero_row, length-set, length-free, length-zeros)

ruleset cells = (set_here, set_else, free-head, free-else, zero-cell, length-set, length-free, length-zeros)

-- a row of zeros, and one of zeros but for slot k
abbrev pub none : ℕ → ℕ
none = λ i. 0

abbrev pub only : ℕ → ℕ → ℕ → ℕ
only k v = at none k v

-- the process has its master and its flag, and that master its object
abbrev pub master : ℕ → ℕ
master = only Limit.objects Limit.caps

abbrev pub flag : ℕ → ℕ
flag = only Limit.objects 1

abbrev pub owner : ℕ → ℕ
owner = only Limit.caps Limit.objects

-- ---- the bytes

pub volume-row : volume_of fresh_bytes ≡ none
unfolding fresh_bytes
volume-row = simp rows

pub flag-row : flag_of fresh_bytes ≡ flag
unfolding fresh_bytes
flag-row = simp rows

pub suspended-row : suspended_of fresh_bytes ≡ none
unfolding fresh_bytes
suspended-row = simp rows

pub waiting-row : waiting_of fresh_bytes ≡ none
unfolding fresh_bytes
waiting-row = simp rows

pub terminated-row : terminated_of fresh_bytes ≡ none
unfolding fresh_bytes
terminated-row = simp rows

pub count-row : count_of fresh_bytes ≡ none
unfolding fresh_bytes
count-row = simp rows

-- ---- the links

pub master-row : master_of fresh_links ≡ master
unfolding fresh_links free_links first_links
master-row = simp rows

pub serial-row : serial_of fresh_links ≡ only Limit.objects 1
unfolding fresh_links free_links first_links
serial-row = simp rows

pub size-row : size_of fresh_links ≡ none
unfolding fresh_links free_links first_links
size-row = simp rows

pub first-block-row : first_block_of fresh_links ≡ none
unfolding fresh_links free_links first_links
first-block-row = simp rows

pub owner-row : owner_of fresh_links ≡ owner
unfolding fresh_links free_links first_links
owner-row = simp rows

pub parent_row : parent_of fresh_links ≡ none
unfolding fresh_links free_links first_links
parent_row = simp rows

pub first-child-row : first_child_of fresh_links ≡ none
unfolding fresh_links free_links first_links
first-child-row = simp rows

pub prev-cap-row : prev_cap_of fresh_links ≡ none
unfolding fresh_links free_links first_links
prev-cap-row = simp rows

pub rights-row : rights_of fresh_links ≡ only Limit.caps Limit.rights
unfolding fresh_links free_links first_links
rights-row = simp rows

pub last-day-row : last_day_of fresh_links ≡ only Limit.caps Limit.day
unfolding fresh_links free_links first_links
last-day-row = simp rows

pub day-cell : get_or fresh_links Layout.DAY 0 ≡ 0
unfolding fresh_links free_links first_links
day-cell = simp cells

-- the chains of free records
pub free-objects : FreeTo Limit.objects (Limit.objects - 1) (next_object_of fresh_links)
unfolding fresh_links free_links first_links
free-objects =
    simp rows
    (free-to Limit.objects Layout.FREE_OBJECTS Layout.NEXT_OBJECT (Limit.objects - 1) _
    (lit≤ tt) (lit≤ tt) (simp rows (lit< tt)) (simp rows))

pub free-caps : FreeTo Limit.caps (Limit.caps - 1) (next_cap_of fresh_links)
unfolding fresh_links free_links first_links
free-caps =
    simp rows
    (free-to Limit.caps Layout.FREE_CAPS Layout.NEXT_CAP (Limit.caps - 1) _
    (lit≤ tt) (lit≤ tt) (simp rows (lit< tt)) (simp rows))

pub free-blocks : FreeTo Limit.blocks Limit.blocks (next_block_of fresh_links)
unfolding fresh_links free_links first_links
free-blocks =
    simp rows
    (free-to Limit.blocks Layout.FREE_BLOCKS Layout.NEXT_BLOCK Limit.blocks _
    (lit≤ tt) (lit≤ tt) (simp rows (lit< tt)) (simp rows))

-- the heads
pub objects-head : get_or fresh_links Layout.OBJECTS 0 ≡ Limit.objects
unfolding fresh_links free_links first_links
objects-head = simp cells

pub free-objects-head : get_or fresh_links Layout.FREE_OBJECTS 0 ≡ Limit.objects - 1
unfolding fresh_links free_links first_links
free-objects-head = simp cells

pub free-caps-head : get_or fresh_links Layout.FREE_CAPS 0 ≡ Limit.caps - 1
unfolding fresh_links free_links first_links
free-caps-head = simp cells

pub free-blocks-head : get_or fresh_links Layout.FREE_BLOCKS 0 ≡ Limit.blocks
unfolding fresh_links free_links first_links
free-blocks-head = simp cells

-- ---- the words

module _ (supply : ℕ) (p : Password) where
  pub house-cell : get_or (fresh_words supply p) Layout.HOUSE 0 ≡ 0
  unfolding fresh_words
  house-cell = simp cells

  pub cash-row : cash_of (fresh_words supply p) ≡ only Limit.objects supply
  unfolding fresh_words
  cash-row = simp rows

  pub lock1-row : lock1_of (fresh_words supply p) ≡ none
  unfolding fresh_words
  lock1-row = simp rows

  pub lock2-row : lock2_of (fresh_words supply p) ≡ none
  unfolding fresh_words
  lock2-row = simp rows

  pub p1-row : p1_of (fresh_words supply p) ≡ only Limit.caps p.p1
  unfolding fresh_words
  p1-row = simp rows

  pub p2-row : p2_of (fresh_words supply p) ≡ only Limit.caps p.p2
  unfolding fresh_words
  p2-row = simp rows

  pub money-row : money_of (fresh_words supply p) ≡ none
  unfolding fresh_words
  money-row = simp rows

  pub start-row : start_of (fresh_words supply p) ≡ none
  unfolding fresh_words
  start-row = simp rows

  pub end_row : end_of (fresh_words supply p) ≡ none
  unfolding fresh_words
  end_row = simp rows
