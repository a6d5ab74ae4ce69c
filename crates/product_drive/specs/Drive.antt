-- 02, CR 3, "The loom drive": a repeat of N picks, C motor counts and W bytes a row; the take-up; the drive's place; a row.
use Rattle.std.specs.Prelude.{ℕ, ◌+◌, ◌-◌, ◌*◌, ◌/◌, ◌≤◌, Bool, true, false, ◌&&◌, leb, eqb}
use Rattle.values.specs.declared.window.Window.{Window}
use Rattle.product_drive.specs.declared.repeat.Repeat.{Repeat}
use Rattle.product_drive.specs.declared.repeat.Place.{Place}

-- ---- limits by name, each number once on this side

-- "N picks, 1 to 65,535"
abbrev pub max_picks : ℕ
max_picks = 65535

-- "C motor counts, 0 to 16,777,215"
abbrev pub max_counts : ℕ
max_counts = 16777215

-- "W bytes a row, 1 to 64"
abbrev pub max_row : ℕ
max_row = 64

-- ---- the take-up

-- the whole part of i × C / N
unfoldable pub up_to : Repeat → ℕ → ℕ
up_to p i = i * p.counts / p.picks

-- "Its take-up step is the whole part of i × C / N less the whole part of (i − 1) × C / N."
unfoldable pub step_at : Repeat → ℕ → ℕ
step_at p i = up_to p i - up_to p (i - 1)

-- ---- the ranges

unfoldable pub repeat_fits : Repeat → Bool
repeat_fits p =
    leb 1 p.picks && leb p.picks max_picks
    && leb p.counts max_counts
    && leb 1 p.row && leb p.row max_row

-- a next pick i of 1 to N, and steps so far that are the whole part of (i − 1) × C / N
unfoldable pub place_fits : Repeat → Place → Bool
place_fits p d = leb 1 d.next && leb d.next p.picks && eqb d.steps (up_to p (d.next - 1))

unfoldable pub fits : Repeat → Place → Bool
fits p d = repeat_fits p && place_fits p d

-- pick i is one of a repeat whose N and C are in their ranges
pub record Within (p : Repeat) (i : ℕ) : Type 0 where
  pub some : 1 ≤ p.picks
  pub picks : p.picks ≤ max_picks
  pub counts : p.counts ≤ max_counts
  pub high : i ≤ p.picks

-- ---- the place

-- next pick 1 and steps so far 0
unfoldable pub start : Place
start = record { next = 1; steps = 0 }

-- after the done pick i at place d: "Pick N hands back next pick 1 and steps so far 0."
unfoldable pub place_after : Repeat → Place → Place
place_after p d = elim (eqb d.next p.picks) [
  | true ↦ start
  | false ↦ record { next = d.next + 1; steps = up_to p d.next }
]

-- ---- the row

-- the window is N × W bytes long
unfoldable pub holds_repeat : Window → Repeat → Bool
holds_repeat v p = eqb (v.end - v.start) (p.picks * p.row)

-- row i − 1 of the window, which pick i reads
unfoldable pub row_of : Window → Repeat → ℕ → Window
row_of v p i = record { start = v.start + (i - 1) * p.row; end = v.start + i * p.row }

-- a theorem that computes with this file's definitions says `unfolding` and this name
unfoldable pub computes : Unit {0}
unfolding up_to step_at repeat_fits place_fits fits start place_after holds_repeat row_of
computes = tt
