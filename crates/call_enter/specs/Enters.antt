-- What `enter` gives, with the slices that it leaves.
use Rattle.std.specs.Prelude.{List, ℕ, Ok, Err, Result}
use Rattle.rules.specs.Code as Code
use Rattle.values.specs.declared.refusal.Refusal.{Refusal}
use Rattle.values.specs.Refusals.{number_of}
use Rattle.call_enter.specs.declared.entry.Entered.{Entered}
use Rattle.call_enter.specs.declared.entry.Stopped.{Stopped}
use Rattle.call_enter.specs.Entry.{Entry}

-- 2, 3 or 4: no slot is told
abbrev pub untold : Refusal → Stopped
untold r = record { refusal = r; slots = record { me = 0; slot = 0 } }

-- 0, or the refusal's number
abbrev pub code_told : Result Entered Stopped → ℕ
code_told (Ok e) = Code.done
code_told (Err x) = number_of x.refusal

-- the slots, of a refusal too
abbrev pub slots_told : Result Entered Stopped → Entered
slots_told (Ok e) = e
slots_told (Err x) = x.slots

unfoldable pub entry_of : Result Entered Stopped → List ℕ → List ℕ → Entry
entry_of r b w = record {
  code = code_told r;
  me = (slots_told r).me;
  slot = (slots_told r).slot;
  bytes = b;
  words = w;
}
