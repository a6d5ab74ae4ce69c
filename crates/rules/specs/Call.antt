-- A call as it comes, the answer it gets, and what 01 leaves open: "which free one is taken".
use Rattle.std.specs.Prelude.{ℕ, List, []}
use Rattle.rules.specs.Code as Code
use Rattle.rules.specs.Store.{Name, Password, Window, Lockword, State, no_name, no_password}

-- a capability as it is presented and handed back: volume, serial, p1, p2
pub record Capability : Type 0 where
  pub name : Name
  pub password : Password

-- every call's own arguments by their names; a call looks at its own alone
pub record Call : Type 0 where
  pub number : ℕ
  pub caller : Name
  pub presented : Capability
  -- make_obj: the volume, and the serial drawn by the host
  pub name : Name
  pub size : ℕ
  -- process flag
  pub flag : ℕ
  -- make_obj's rights, derive_cap's mask
  pub rights : ℕ
  -- the fresh password, drawn by the host
  pub drawn : Password
  -- start and end
  pub range : Window
  pub sum : ℕ
  pub lock : Lockword
  -- write's data, send's message
  pub text : List ℕ
  -- the lengths of the answer buffer and of the scratch
  pub buffer : ℕ
  pub scratch : ℕ
  -- derive_cap: the most that the child's moneyword is (02, CR 1)
  pub limit : ℕ
  -- derive_cap: the most that the child's last day is; of call 17, the new day (02, CR 9)
  pub last_day : ℕ
  pub day : ℕ

-- `code` is 0 for a done call, or the refusal. `capability` is a new one; `length` and `moneyword` are cap_info's; `sum`
-- is receive's; `bytes` go to the buffer's front. A field that a call does not use is 0, or no bytes.
pub record Answer : Type 0 where
  pub code : ℕ
  pub capability : Capability
  pub length : ℕ
  pub moneyword : ℕ
  pub sum : ℕ
  pub bytes : List ℕ

pub record Outcome : Type 0 where
  pub answer : Answer
  pub after : State

-- the free slots that a new object and a new capability take
pub record Choice : Type 0 where
  pub object : ℕ
  pub cap : ℕ

unfoldable pub no_capability : Capability
no_capability = record { name = no_name; password = no_password }

-- ---- answers

-- the refusal, or 0 for a done call that gives nothing; the other fields are 0
unfoldable pub code : ℕ → Answer
code n = record { code = n; capability = no_capability; length = 0; moneyword = 0; sum = 0; bytes = [] }

unfoldable pub done : State → Outcome
done s = record { answer = code Code.done; after = s }

-- a new capability, as drawn
unfoldable pub hands_back : Name → Password → State → Outcome
hands_back n p s = record {
  answer = record {
    code = 0;
    capability = record { name = n; password = p };
    length = 0;
    moneyword = 0;
    sum = 0;
    bytes = [];
  };
  after = s;
}

-- read's bytes; receive's sum and bytes
unfoldable pub hands_over : ℕ → List ℕ → State → Outcome
hands_over sum bytes s = record {
  answer = record {
    code = 0;
    capability = no_capability;
    length = 0;
    moneyword = 0;
    sum = sum;
    bytes = bytes;
  };
  after = s;
}

-- cap_info's window length and moneyword
unfoldable pub tells : ℕ → ℕ → State → Outcome
tells length moneyword s = record {
  answer = record {
    code = 0;
    capability = no_capability;
    length = length;
    moneyword = moneyword;
    sum = 0;
    bytes = [];
  };
  after = s;
}

-- a theorem that computes with this file's definitions says `unfolding` and this name
unfoldable pub computes : Unit {0}
unfolding no_capability code done hands_back hands_over tells
computes = tt
