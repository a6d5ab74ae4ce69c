-- A call's own part, exactly: the answer and the slices that it leaves, and when they meet the rules.
use Rattle.std.specs.Prelude.{ℕ, ◌≤◌, ◌≡◌, ◌≢◌, true, false, List, ◌++◌, eqb, drop, length}
use Rattle.rules.specs.Code as Code
use Rattle.rules.specs.Limit as Limit
use Rattle.rules.specs.Store.{State, Window}
use Rattle.rules.specs.Rights.{Op}
use Rattle.rules.specs.Call.{Call, Answer, Outcome, Choice, code, hands_over}
use Rattle.rules.specs.Refusals.{first}
use Rattle.rules.specs.Calls.{refuses, does}
use Rattle.rules.specs.Demand.{Open}
use Rattle.layout.specs.Rows.{flag_of, master_of, owner_of, start_of, end_of}
use Rattle.layout.specs.View.{view}
use Rattle.layout.specs.Shape.{Shape}
use Rattle.layout.specs.WellFormed.{Sized, Cells}
use Rattle.call_steps.specs.Tests.{ObjectSlot}

-- slot me holds a living process
pub record Process (b l : List ℕ) (me : ℕ) : Type 0 where
  pub low : 1 ≤ me
  pub high : me ≤ Limit.objects
  pub live : master_of l me ≢ 0
  pub flag : flag_of b me ≢ 0

-- slot k holds a living capability
pub record Held (l : List ℕ) (k : ℕ) : Type 0 where
  pub low : 1 ≤ k
  pub high : k ≤ Limit.caps
  pub live : owner_of l k ≢ 0

-- slot k holds a living capability, and the slot that it names a living object
pub record Target (l : List ℕ) (k : ℕ) : Type 0 where
  pub held : Held l k
  pub slot : ObjectSlot (owner_of l k)
  pub live : master_of l (owner_of l k) ≢ 0

-- the window of the capability in slot k
abbrev pub window_in : List ℕ → ℕ → Window
window_in w k = record { start = start_of w k; end = end_of w k }

-- a call that is over: its answer, and the store's slices
pub record Ran : Type 0 where
  pub answer : Answer
  pub bytes : List ℕ
  pub links : List ℕ
  pub words : List ℕ

-- the code n, and nothing to tell
unfoldable pub over : ℕ → List ℕ → List ℕ → List ℕ → Ran
over n b l w = record { answer = code n; bytes = b; links = l; words = w }

-- a sum and bytes are handed over
unfoldable pub handed_over : ℕ → List ℕ → List ℕ → List ℕ → List ℕ → Ran
handed_over sum xs b l w = record {
  answer = (hands_over sum xs (view b l w)).answer;
  bytes = b;
  links = l;
  words = w;
}

-- the refusal n, and nothing changed; where n is 0, the run x
unfoldable pub settled : ℕ → List ℕ → List ℕ → List ℕ → Ran → Ran
settled n b l w x = elim (eqb n Code.done) [ true ↦ x | false ↦ over n b l w ]

-- what it comes to in the rules
abbrev pub outcome : Ran → Outcome
outcome x = record { answer = x.answer; after = view x.bytes x.links x.words }

-- the answer's bytes at the buffer's front, and no later byte changed
unfoldable pub overlay : List ℕ → List ℕ → List ℕ
overlay bytes buffer = bytes ++ drop (length bytes) buffer

-- the rules of a call's own part: its refusals after 6, and what it does when none is met
unfoldable pub own : State → Call → ℕ → ℕ → Choice → Op → Outcome
own s c me k h o = elim (eqb (first (refuses s c me k o)) Code.done) [
  | true ↦ does s c me k h o
  | false ↦ record { answer = code (first (refuses s c me k o)); after = s }
]

-- the run x of call o's own part is what the rules give, for some choice of free slots, and leaves slices whose lengths
-- and cells are those of a well-formed store, and links of which P holds
pub record MeetsWith (P : List ℕ → Type 0) (s : State) (c : Call) (me k : ℕ) (o : Op) (x : Ran) : Type 0 where
  pub choice : Choice
  pub free : x.answer.code ≡ Code.done → Open s c choice
  pub rules : own s c me k choice o ≡ outcome x
  pub sized : Sized x.bytes x.links x.words
  pub cells : Cells x.bytes x.links
  pub links : P x.links

-- the links are those of a well-formed store
abbrev pub Meets : State → Call → ℕ → ℕ → Op → Ran → Type 0
Meets s c me k o x = MeetsWith Shape s c me k o x

-- the links are l, those at entry: the call writes none
abbrev pub MeetsPlain : List ℕ → State → Call → ℕ → ℕ → Op → Ran → Type 0
MeetsPlain l s c me k o x = MeetsWith (λ (m : List ℕ). m ≡ l) s c me k o x
