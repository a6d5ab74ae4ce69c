-- `put_number` puts ten digits at most.
use native.Mathlib.Omega.{arith}
use Rattle.script_text.proofs.Numerals.{numeral-length}
use Rattle.script_text.proofs.Pasting.{number-end}
use Rattle.script_text.proofs.write.put_number.Goals as goal

pub put_digits-requires : goal.put_digits-requires
put_digits-requires c = omega (arith, numeral-length c.args.n (omega arith))

pub returns : goal.returns
returns c =
    let w = c.put_digits.ensures in
    record { wrote = w; room = number-end w (omega arith) }
