-- One make_obj on a fresh store, taken into the first slots or into the last free ones: two stores, one meaning.
use Rattle.std.specs.Prelude.{ℕ, ◌-◌, ◌≡◌, true, false, []}
use Rattle.rules.specs.Limit as Limit
use Rattle.rules.specs.Store.{Name, Password, State, no_window, no_lockword, no_marks, fresh}
use Rattle.rules.specs.Call.{Call, Choice, no_capability}
use Rattle.rules.specs.Rule.{rule}
use Rattle.rules.specs.Meaning.{object_seen, cap_seen, SameMeaning}

unfoldable pub supply : ℕ
supply = 100

unfoldable pub password : Password
password = record { p1 = 5; p2 = 9 }

unfoldable pub process : Name
process = record { volume = 0; serial = 1 }

unfoldable pub thing : Name
thing = record { volume = 2; serial = 7 }

unfoldable pub makes : Call
makes = record {
  number = 1;
  caller = process;
  presented = no_capability;
  name = thing;
  size = 0;
  flag = 0;
  rights = 3;
  drawn = record { p1 = 11; p2 = 13 };
  range = no_window;
  sum = 0;
  lock = no_lockword;
  text = [];
  buffer = Limit.buffer;
  scratch = Limit.scratch;
  limit = 0;
  last_day = 0;
  day = 0;
}

unfoldable pub low : Choice
low = record { object = 1; cap = 1 }

unfoldable pub high : Choice
high = record { object = Limit.objects - 1; cap = Limit.caps - 1 }

unfoldable pub after : Choice → State
after h = (rule (fresh supply password) makes h).after

-- ---- what is proved

pub record Example : Type 0 where
  -- the slots are others
  pub here : ((after low).object 1).live ≡ true
  pub there : ((after high).object 1).live ≡ false
  -- and the meaning is the same
  pub same : SameMeaning (after low) (after high)
  -- it shows the process, which has paid 20, the thing and its master, and nothing of a name or p1 that is not there
  pub process-seen : object_seen (after high) process ≡ record {
    live = true;
    size = 0;
    process = true;
    bytes = [];
    marks = no_marks;
    cash = 80;
    lock = no_lockword;
    box = [];
  }
  pub thing-seen : (object_seen (after high) thing).live ≡ true
  pub none_seen : (object_seen (after high) (record { volume = 2; serial = 8 })).live ≡ false
  pub master-seen : cap_seen (after high) thing 11 ≡ record {
    live = true;
    password = record { p1 = 11; p2 = 13 };
    window = no_window;
    rights = 3;
    last_day = Limit.day;
    moneyword = 0;
    master = true;
    parent = 0;
  }
  pub none-there : (cap_seen (after high) thing 12).live ≡ false

-- a theorem that computes with this file's definitions says `unfolding` and this name
unfoldable pub computes : Unit {0}
unfolding supply password process thing makes low high after
computes = tt
