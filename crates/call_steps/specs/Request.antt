-- A request as the rules' call, and a reply as their answer.
use Rattle.std.specs.Prelude.{ℕ, List, [], ◌∷◌, Ok, Err, Result}
use Rattle.rules.specs.Code as Code
use Rattle.rules.specs.Store as Store
use Rattle.rules.specs.Call as Call
use Rattle.rules.specs.Rights.{read_number, write_number, withdraw_number}
use Rattle.values.specs.Words.{password_of, lockword_of, window_of}
use Rattle.values.specs.declared.window.Window.{Window}
use Rattle.values.specs.declared.refusal.Refusal.{Refusal}
use Rattle.values.specs.Refusals.{number_of}
use Rattle.call_steps.specs.declared.request.Name.{Name}
use Rattle.call_steps.specs.declared.request.Capability.{Capability}
use Rattle.call_steps.specs.declared.request.Request.{Request}
use Rattle.call_steps.specs.declared.request.Given.{Given}

abbrev pub name_of : Name → Store.Name
name_of n = record { volume = n.volume; serial = n.serial }

abbrev pub capability_of : Capability → Call.Capability
capability_of x = record { name = name_of x.name; password = password_of x.password }

-- with the bytes that come with it, and the lengths of the answer buffer and of the scratch
unfoldable pub call_of : Request → List ℕ → ℕ → ℕ → Call.Call
call_of r text buffer scratch = record {
  number = r.number;
  caller = name_of r.caller;
  presented = capability_of r.presented;
  name = name_of r.name;
  size = r.size;
  flag = r.flag;
  rights = r.rights;
  drawn = password_of r.drawn;
  range = window_of r.range;
  sum = r.sum;
  lock = lockword_of r.lock;
  text = text;
  buffer = buffer;
  scratch = scratch;
  limit = r.limit;
  last_day = r.last_day;
  day = r.day;
}

-- a call of this number with a range and a sum; the arguments that it does not use are 0
unfoldable pub presenting_request : ℕ → Name → Capability → Window → ℕ → Request
presenting_request number caller presented range sum = record {
  number = number;
  caller = caller;
  presented = presented;
  name = record { volume = 0; serial = 0 };
  size = 0;
  flag = 0;
  rights = 0;
  drawn = 0 ∷ 0 ∷ [];
  range = range;
  sum = sum;
  lock = 0 ∷ 0 ∷ [];
  limit = 0;
  last_day = 0;
  day = 0;
}

abbrev pub read_request : Name → Capability → Window → Request
read_request caller presented range = presenting_request read_number caller presented range 0

abbrev pub write_request : Name → Capability → Window → Request
write_request caller presented range = presenting_request write_number caller presented range 0

abbrev pub withdraw_request : Name → Capability → ℕ → Request
withdraw_request caller presented sum = presenting_request withdraw_number caller presented (record { start = 0; end = 0 }) sum

-- what a done call gives, or its refusal
abbrev pub Reply : Type 0
Reply = Result Given Refusal

-- with the bytes at the buffer's front; a refusal tells its number alone
unfoldable pub answer_of : Reply → List ℕ → Call.Answer
answer_of (Ok x) bytes = record {
  code = Code.done;
  capability = capability_of x.capability;
  length = x.length;
  moneyword = x.moneyword;
  sum = x.sum;
  bytes = bytes;
}
answer_of (Err r) bytes = record {
  code = number_of r;
  capability = Call.no_capability;
  length = 0;
  moneyword = 0;
  sum = 0;
  bytes = bytes;
}

-- how many bytes stand at the buffer's front
abbrev pub count_of : Reply → ℕ
count_of (Ok x) = x.count
count_of (Err r) = 0
