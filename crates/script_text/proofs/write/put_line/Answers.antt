-- `put_line` writes the first number, the others, and the end.
use Prim.Native.Nat.{◌≤◌}
use lib.ListN.{length}
use native.Mathlib.Omega.{arith}
use Rattle.script_text.specs.Numeral.{numeral}
use Rattle.script_text.proofs.Numerals.{long-length}
use Rattle.script_text.proofs.Pasting.{put_all}
use Rattle.script_text.proofs.write.put_line.Goals as goal
use Rattle.script_text.proofs.write.put_line.Goals.{Start}

-- the first number has twenty digits at most
first : (s : Start) → length (numeral s.args.first) ≤ 20
first c = long-length c.args.first (omega arith)

pub put_digits-p-requires : goal.put_digits-p-requires
put_digits-p-requires c = omega (arith, first (goal.at.put_digits-p-requires c).Start)

pub put_after-q-requires : goal.put_after-q-requires
put_after-q-requires c =
    omega (arith, first (goal.at.put_after-q-requires c).Start, c.put_digits-p.ensures.end, c.put_digits-p.auto.out)

pub put_byte-requires : goal.put_byte-requires
put_byte-requires c =
    omega (
      arith,
      first (goal.at.put_byte-requires c).Start,
      c.put_digits-p.ensures.end,
      c.put_digits-p.auto.out,
      c.put_after-q.ensures.room,
      c.put_after-q.auto.out,
    )

pub returns : goal.returns
returns c =
    put_all _ _ _ _ _ _ _ _ _ _ (omega arith) (omega arith) c.put_digits-p.ensures c.put_after-q.ensures
    c.put_byte.ensures
