-- `cap_info` reads the capability's window and moneyword.
use Prim.Native.Nat.{ℕ, ◌+◌}
use mathlib.Core.Path.{◌≡◌, refl}
use native.Mathlib.Omega.{arith}
use lib.ListN.{get_or}
use Rattle.layout.specs.Layout as Layout
use Rattle.layout.specs.Rows.{field}
use Rattle.layout.specs.View.{view}
use Rattle.layout.proofs.Field.{field_in}
use Rattle.call_marks.specs.Runs.{told, info_run}
use Rattle.call_marks.proofs.info.cap_info.Goals as goal
use Rattle.call_marks.proofs.info.cap_info.Goals.{Start}

-- the cell of the capability in a row of the words
cell : (c : Start) (off : ℕ) → field 512 off c.args.words.now c.args.k ≡ get_or c.args.words.now (off + c.args.k) 0
cell c off = field_in 512 off c.args.words.now c.args.k c.requires.low c.requires.high

pub overflow_sub-end : goal.overflow_sub-end
overflow_sub-end c =
    omega (arith, c.requires.ordered, cell (goal.at.overflow_sub-end c).Start Layout.START, cell (goal.at.overflow_sub-end c).Start Layout.END)

pub returns : goal.returns
unfolding info_run told
returns c b l =
    let w = c.args.words.now in
    record {
      none = c.tells.ensures.none;
      answer = rw (cell (goal.at.returns c).Start Layout.START, cell (goal.at.returns c).Start Layout.END, cell (goal.at.returns c).Start Layout.MONEY) (c.tells.ensures.answer (view b l w));
      bytes = refl;
      links = refl;
      words = refl;
    }
