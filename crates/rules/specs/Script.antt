-- 01, "A script and its output", in numbers: a line as a call, the numbers that an answer writes, and a run to the `T`
-- line. How the numbers stand in bytes is the script program's own.
use Rattle.std.specs.Prelude.{ℕ, ◌+◌, Bool, true, false, not, ◌&&◌, List, [], ◌∷◌, ◌++◌, eqb, leb, ltb, length, take, drop, get_or}
use Rattle.rules.specs.Limit as Limit
use Rattle.rules.specs.Code as Code
use Rattle.rules.specs.Slots as Slots
use Rattle.rules.specs.Store as Store
use Rattle.rules.specs.Rights as Rights
use Rattle.rules.specs.Call as Call
use Rattle.rules.specs.Password as Password
use Rattle.rules.specs.Refusals as Refusals
use Rattle.rules.specs.Update as Update
use Rattle.rules.specs.Changes as Changes
use Rattle.rules.specs.Calls as Calls
use Rattle.rules.specs.Rule as Rule
use Rattle.rules.specs.Fields as Fields
use Rattle.rules.specs.Slots.{find, any}
use Rattle.rules.specs.Store.{Password, State, cap_lives, all_cash, all_masters, all_boxes, fresh}
use Rattle.rules.specs.Rights.{Op, make_obj, read, write, cap_info, derive_cap, delete_cap, rename_obj, withdraw}
use Rattle.rules.specs.Rights.{deposit, suspend, resume, apply_lock, send, receive, wait, revive, unknown, op}
use Rattle.rules.specs.Rights.{day_number}
use Rattle.rules.specs.Call.{Call, Capability, Answer, Outcome, Choice, code}
use Rattle.rules.specs.Password.{presented}
use Rattle.rules.specs.Refusals.{caller}
use Rattle.rules.specs.Calls.{emptied}
use Rattle.rules.specs.Rule.{rule}
use Rattle.rules.specs.Fields.{Field, caller_volume, caller_serial, cap_volume, cap_serial, cap_p1, cap_p2, volume, size, flag}
use Rattle.rules.specs.Fields.{rights, serial, p1, p2, start, end, sum, word1, word2, text, limit, last_day, day, fields}
use Rattle.rules.specs.Fields.{place}

-- ---- a line: call number, caller's volume and serial, the capability (volume, serial, p1, p2) where one is presented,
-- then arguments; `fields` says which

-- the i-th number of a list, counted from 0
abbrev pub nth : List ℕ → ℕ → ℕ
nth l i = get_or l i 0

-- the line has a place for a last day, and n numbers less than its fields
unfoldable pub lacks : ℕ → Op → List ℕ → Bool
lacks n o l = not (eqb (place o last_day) 0) && eqb (n + length l) (length (fields o))

-- these numbers put in at a field's place
unfoldable pub put_in : ℕ → List ℕ → List ℕ → List ℕ
put_in p ns l = take p l ++ ns ++ drop p l

-- 02, CR 9: "a line without it takes the parent's", of the last day; CR 11: "A derive_cap line without a limit now gives
-- moneyword 0." Such a line is read with the defaults in their places: that of the last day, or those of both
unfoldable pub whole : Op → List ℕ → List ℕ
whole o l = elim (lacks 1 o l) [
  | true ↦ put_in (place o last_day) (Limit.default_last_day ∷ []) l
  | false ↦ elim (lacks 2 o l) [
    | true ↦ put_in (place o limit) (Limit.default_limit ∷ Limit.default_last_day ∷ []) l
    | false ↦ l
  ]
]

-- bytes are 0 to 255
unfoldable pub are_bytes : List ℕ → Bool
are_bytes l = not (any (λ b. ltb Limit.byte b) l)

-- calls are 1 to 17
unfoldable pub is_call : ℕ → Bool
is_call n = leb 1 n && leb n day_number

-- a line of the call has as many numbers as fields, or, where it goes on with bytes, the numbers before them and bytes
unfoldable pub line_fits : Op → List ℕ → Bool
line_fits o [] = false
line_fits o (n ∷ l) = is_call n && elim (eqb (place o text) 0) [
  | true ↦ eqb (length (whole o (n ∷ l))) (length (fields o))
  | false ↦ leb (place o text) (length (n ∷ l)) && are_bytes (drop (place o text) (n ∷ l))
]

-- the number at a field's place; 0 where the line does not have the field
unfoldable pub number_at : List ℕ → ℕ → ℕ
number_at l p = elim (eqb p 0) [ true ↦ 0 | false ↦ nth l p ]

-- the numbers from the place of `text` on
unfoldable pub bytes_at : List ℕ → ℕ → List ℕ
bytes_at l p = elim (eqb p 0) [ true ↦ [] | false ↦ drop p l ]

-- what a line says in a field
abbrev pub said : Op → List ℕ → Field → ℕ
said o l f = number_at (whole o l) (place o f)

-- the call that a line of fitting length says
unfoldable pub call_of : Op → List ℕ → Call
call_of o l = record {
  number = nth l 0;
  caller = record { volume = said o l caller_volume; serial = said o l caller_serial };
  presented = record {
    name = record { volume = said o l cap_volume; serial = said o l cap_serial };
    password = record { p1 = said o l cap_p1; p2 = said o l cap_p2 };
  };
  name = record { volume = said o l volume; serial = said o l serial };
  size = said o l size;
  flag = said o l flag;
  rights = said o l rights;
  drawn = record { p1 = said o l p1; p2 = said o l p2 };
  range = record { start = said o l start; end = said o l end };
  sum = said o l sum;
  lock = record { first = said o l word1; second = said o l word2 };
  text = bytes_at l (place o text);
  buffer = Limit.buffer;
  scratch = Limit.scratch;
  limit = said o l limit;
  last_day = said o l last_day;
  day = said o l day;
}

-- ---- the numbers of an answer: 0 or the refusal, then results

unfoldable pub written : Capability → List ℕ
written x = x.name.volume ∷ x.name.serial ∷ x.password.p1 ∷ x.password.p2 ∷ []

-- a new capability; bytes; length and moneyword; sum and bytes
unfoldable pub results : Op → Answer → List ℕ
results make_obj a = written a.capability
results read a = a.bytes
results write a = []
results cap_info a = a.length ∷ a.moneyword ∷ []
results derive_cap a = written a.capability
results delete_cap a = []
results rename_obj a = written a.capability
results withdraw a = []
results deposit a = []
results suspend a = []
results resume a = []
results apply_lock a = []
results send a = []
results receive a = a.sum ∷ a.bytes
results wait a = []
results revive a = []
results unknown a = []

unfoldable pub answer_of : Op → Answer → List ℕ
answer_of o a = elim (eqb a.code 0) [ true ↦ 0 ∷ results o a | false ↦ a.code ∷ [] ]

-- ---- a run

-- the store in which a call takes its free slots: rename_obj frees its object's own before it takes one
unfoldable pub freed : State → Call → Op → State
freed s c make_obj = s
freed s c read = s
freed s c write = s
freed s c cap_info = s
freed s c derive_cap = s
freed s c delete_cap = s
freed s c rename_obj = emptied s c (caller s c) (presented s (caller s c) c.presented)
freed s c withdraw = s
freed s c deposit = s
freed s c suspend = s
freed s c resume = s
freed s c apply_lock = s
freed s c send = s
freed s c receive = s
freed s c wait = s
freed s c revive = s
freed s c unknown = s

-- one way to take what is open: the last free object and the last free capability
unfoldable pub last_free : State → Call → Choice
last_free s c =
    let r : State = freed s c (op c.number) in
    record {
      object = find Limit.objects (λ o. not (r.object o).live);
      cap = find Limit.caps (λ i. not (cap_lives r i));
    }

-- a bad line is answered 2 and changes nothing
unfoldable pub line_rule : State → List ℕ → Outcome
line_rule s l = elim (line_fits (op (nth l 0)) l) [
  | true ↦ rule s (call_of (op (nth l 0)) l) (last_free s (call_of (op (nth l 0)) l))
  | false ↦ record { answer = code Code.out_of_range; after = s }
]

-- cash, masters' moneywords, box sums, house
unfoldable pub totals : State → List ℕ
totals s = all_cash s ∷ all_masters s ∷ all_boxes s ∷ s.house ∷ []

-- the answers to the lines, and last the totals
unfoldable pub play : State → List (List ℕ) → List (List ℕ)
play s [] = totals s ∷ []
play s (l ∷ ls) =
    let r : Outcome = line_rule s l in
    answer_of (op (nth l 0)) r.answer ∷ play r.after ls

-- ---- examples: line one, the other lines, and what is written for them

pub record Example : Type 0 where
  pub supply : ℕ
  pub p1 : ℕ
  pub p2 : ℕ
  pub lines : List (List ℕ)
  pub answers : List (List ℕ)
  pub totals : List ℕ

-- what the rules write
unfoldable pub writes : Example → List (List ℕ)
writes e = play (fresh e.supply (record { p1 = e.p1; p2 = e.p2 })) e.lines

-- what the example says
unfoldable pub says : Example → List (List ℕ)
says e = e.answers ++ e.totals ∷ []

-- 01's script
unfoldable pub example : Example
example = record {
  supply = 1000;
  p1 = 5;
  p2 = 9;
  lines =
      (1 ∷ 0 ∷ 1 ∷ 2 ∷ 128 ∷ 0 ∷ 8191 ∷ 7 ∷ 11 ∷ 13 ∷ [])
      ∷ (5 ∷ 0 ∷ 1 ∷ 2 ∷ 7 ∷ 11 ∷ 13 ∷ 3 ∷ 64 ∷ 500 ∷ 21 ∷ 22 ∷ [])
      ∷ (2 ∷ 0 ∷ 1 ∷ 2 ∷ 7 ∷ 21 ∷ 22 ∷ 63 ∷ 65 ∷ [])
      ∷ (9 ∷ 0 ∷ 1 ∷ 2 ∷ 7 ∷ 11 ∷ 13 ∷ 100 ∷ [])
      ∷ (4 ∷ 0 ∷ 1 ∷ 2 ∷ 7 ∷ 21 ∷ 22 ∷ [])
      ∷ (6 ∷ 0 ∷ 1 ∷ 2 ∷ 7 ∷ 11 ∷ 13 ∷ [])
      ∷ (2 ∷ 0 ∷ 1 ∷ 2 ∷ 7 ∷ 21 ∷ 22 ∷ 64 ∷ 65 ∷ [])
      ∷ [];
  answers =
      (0 ∷ 2 ∷ 7 ∷ 11 ∷ 13 ∷ [])
      ∷ (0 ∷ 2 ∷ 7 ∷ 21 ∷ 22 ∷ [])
      ∷ (7 ∷ [])
      ∷ (0 ∷ [])
      ∷ (6 ∷ [])
      ∷ (0 ∷ [])
      ∷ (5 ∷ [])
      ∷ [];
  totals = 865 ∷ 0 ∷ 0 ∷ 135 ∷ [];
}

-- a theorem that computes with the rules says `unfolding` and this name
unfoldable pub computes : Unit {0}
unfolding Slots.computes Store.computes Rights.computes Call.computes Password.computes Refusals.computes
    Update.computes Changes.computes Calls.computes Rule.computes Fields.computes lacks put_in whole are_bytes is_call line_fits number_at bytes_at call_of written
    results answer_of freed last_free line_rule totals play writes says example
computes = tt
