-- `request_of` is the rules' `call_of`, field by field.
use native.Mathlib.Omega.{arith}
use Rattle.rules.specs.Limit as Limit
use Rattle.rules.specs.Rights.{op}
use Rattle.rules.specs.Fields.{caller_volume, caller_serial, cap_volume, cap_serial, cap_p1, cap_p2, volume, size, flag}
use Rattle.rules.specs.Fields.{rights, serial, p1, p2, start, end, sum, word1, word2, day}
use Rattle.rules.specs.Script.{nth}
use Rattle.rules.specs.Script.{call_of as script_call_of}
use Rattle.call_steps.specs.Request.{call_of}
use Rattle.script_lines.specs.Table as Table
use Rattle.script_lines.proofs.Rows.{of_number}
use Rattle.script_lines.proofs.Lacking.{said_in, after-in, limit-in, last-day-in}
use Rattle.script_lines.proofs.request.request_of.Goals as goal

pub returns : goal.returns
unfolding Table.computes call_of script_call_of
returns c =
    let l = c.args.numbers.now in
    let k = of_number c.column-call.ensures c.nth-number.ensures in
    let lacks = c.lacking-lacking.ensures in
    λ i. record {
      number = c.nth-number.ensures i;
      caller = record { volume = said_in caller_volume (omega arith) _ _ _ _ k c.name_at.ensures.volume i; serial = said_in caller_serial (omega arith) _ _ _ _ k c.name_at.ensures.serial i };
      presented = record {
        name = record { volume = said_in cap_volume (omega arith) _ _ _ _ k c.name_at-2.ensures.volume i; serial = said_in cap_serial (omega arith) _ _ _ _ k c.name_at-2.ensures.serial i };
        password = record { p1 = said_in cap_p1 (omega arith) _ _ _ _ k c.number_at.ensures i; p2 = said_in cap_p2 (omega arith) _ _ _ _ k c.number_at-2.ensures i };
      };
      name = record { volume = said_in volume (omega arith) _ _ _ _ k c.name_at-3.ensures.volume i; serial = said_in serial (omega arith) _ _ _ _ k c.name_at-3.ensures.serial i };
      size = said_in size (omega arith) _ _ _ _ k c.number_at-3.ensures i;
      flag = said_in flag (omega arith) _ _ _ _ k c.number_at-4.ensures i;
      rights = said_in rights (omega arith) _ _ _ _ k c.number_at-5.ensures i;
      drawn = record { p1 = after-in p1 (omega arith) _ _ _ _ _ k lacks c.number_after.ensures i; p2 = after-in p2 (omega arith) _ _ _ _ _ k lacks c.number_after-2.ensures i };
      range = record { start = said_in start (omega arith) _ _ _ _ k c.number_at-6.ensures i; end = said_in end (omega arith) _ _ _ _ k c.number_at-7.ensures i };
      sum = said_in sum (omega arith) _ _ _ _ k c.number_at-8.ensures i;
      lock = record { first = said_in word1 (omega arith) _ _ _ _ k c.number_at-9.ensures i; second = said_in word2 (omega arith) _ _ _ _ k c.number_at-10.ensures i };
      text = (script_call_of (op (nth l 0)) l).text;
      buffer = Limit.buffer;
      scratch = Limit.scratch;
      limit = limit-in _ _ _ _ _ k lacks c.number_or.ensures i;
      last_day = last-day-in _ _ _ _ _ k lacks c.number_or-2.ensures i;
      day = said_in day (omega arith) _ _ _ _ k c.number_at-11.ensures i;
    }
