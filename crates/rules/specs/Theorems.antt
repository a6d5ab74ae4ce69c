-- What is proved about the rules besides demand 3, each statement by itself; proofs/Theorems.antt has the proofs.
use Rattle.std.specs.Prelude.{ℕ, ◌≤◌, ◌<◌, ◌≡◌, ◌≢◌, ◌↔◌, Bool, true, false, not, ◌&&◌, List, [], ◌∷◌, ◌++◌, map, leb, ltb}
use Rattle.rules.specs.Code as Code
use Rattle.rules.specs.Limit as Limit
use Rattle.rules.specs.Slots.{count_over, any}
use Rattle.rules.specs.Store.{Name, Password, State, same_name, path, descends, cap_lives, object_named, money_in, fresh}
use Rattle.rules.specs.Valid.{Valid}
use Rattle.rules.specs.Call.{Capability, Call, Outcome, Choice, code}
use Rattle.rules.specs.Rights.{DERIVE_CAP, has, op, read, derive_cap, fee_of, day_number}
use Rattle.rules.specs.Refusals.{Refusal, ◌when◌, first, name_fits, arguments_fit, caller, early, expired, showing}
use Rattle.rules.specs.Changes.{set_terminated}
use Rattle.rules.specs.Calls.{lies_in, derive_cap_refuses}
use Rattle.rules.specs.Rule.{paid, rule, is_done}
use Rattle.rules.specs.Questions.{shown_slot, window_refuses, window_asked, opening, Wish, Fulfils, Lends, wish_fits, Lent, LendAsked}
use Rattle.rules.specs.Demand.{Words, FreshWords, Open, Allowed, Step, Legal, start, run}
use Rattle.rules.specs.Script.{last_free}

-- ---- every call keeps the store well formed, and the money total

unfoldable pub FreshValid : Type 0
FreshValid = (supply : ℕ) (p : Password) → FreshWords supply p → Valid (fresh supply p)

unfoldable pub ValidKept : Type 0
ValidKept = (s : State) (c : Call) (h : Choice) → Valid s → Allowed s c h → Valid (rule s c h).after

unfoldable pub MoneyKept : Type 0
MoneyKept = (s : State) (c : Call) (h : Choice) → Valid s → Allowed s c h → money_in (rule s c h).after ≡ money_in s

-- ---- demand 1: what a refused call answers and leaves

pub record Refused (s : State) (c : Call) (r : Outcome) : Type 0 where
  -- a refusal's other result fields are 0
  pub others : r.answer ≡ code r.answer.code
  -- 2 and 3 change nothing
  pub nothing : r.answer.code < Code.cannot_pay → r.after ≡ s
  -- 4 marks the caller terminated
  pub marks : r.answer.code ≡ Code.cannot_pay → r.after ≡ set_terminated s (caller s c) true
  -- later ones move only the fee
  pub fee : c.number ≢ day_number → Code.cannot_pay < r.answer.code → r.after ≡ paid s c
  -- call 17 has none: its refusals change nothing
  pub host : c.number ≡ day_number → r.after ≡ s

unfoldable pub RefusedLeaves : Type 0
RefusedLeaves = (s : State) (c : Call) (h : Choice) → is_done (rule s c h) ≡ false → Refused s c (rule s c h)

-- ---- runs exist

-- whether a call is done, and its answer, do not depend on what is taken
unfoldable pub AnswerFixed : Type 0
AnswerFixed = (s : State) (c : Call) (h g : Choice) → (rule s c h).answer ≡ (rule s c g).answer

-- where a call is done there is something free to take
unfoldable pub ChoiceExists : Type 0
ChoiceExists = (s : State) (c : Call) (h : Choice) → Valid s → is_done (rule s c h) ≡ true → (g : Choice) × Open s c g

-- what a script's line takes was free, also where 512 capabilities live and rename_obj frees its own
unfoldable pub LastFree : Type 0
LastFree = (s : State) (c : Call) → Valid s → is_done (rule s c (last_free s c)) ≡ true → Open s c (last_free s c)

unfoldable pub AllWords : List Call → Type 0
AllWords [] = Unit {0}
AllWords (c ∷ l) = Words c × AllWords l

-- every list of calls has a run from a fresh store
unfoldable pub RunExists : Type 0
RunExists = (supply : ℕ) (p : Password) → FreshWords supply p → (calls : List Call) → AllWords calls
    → (l : List Step) × (map (λ x. x.call) l ≡ calls) × Legal (start supply p) l

-- ---- 02, CR 2: "A process with mail should not sleep."

-- a process that waits has an empty box
unfoldable pub Awake : State → Type 0
Awake s = (o : ℕ) → (s.marks o).waiting ≡ true → s.box o ≡ []

-- so it is after every list of calls from a fresh store
unfoldable pub MailWakes : Type 0
MailWakes = (supply : ℕ) (p : Password) (l : List Step) → Awake (run (start supply p) l).store

-- ---- 02, CR 3: the window question is asked "with read's 1, 2, 3, 5 and 6", and since CR 9 with 19 after 5

-- the question's refusals, then 7
unfoldable pub read_refuses : State → Call → List Refusal
read_refuses s c =
    let k : ℕ = shown_slot s c.caller c.presented in
    window_refuses s c.caller c.presented
    ++ (Code.outside_window when not (lies_in c.range (s.cap k).window) ∷ [])

-- they are a read's, where its range and buffer fit and its caller can pay
unfoldable pub ReadRefuses : Type 0
ReadRefuses = (s : State) (c : Call) (h : Choice) → op c.number ≡ read → arguments_fit read c ≡ true
    → fee_of c.number ≤ s.cash (caller s c)
    → (rule s c h).answer.code ≡ first (read_refuses s c)

-- so a read inside the window that the question tells is refused by none but 2, 3 and 4
unfoldable pub ReadInside : Type 0
ReadInside = (s : State) (c : Call) (h : Choice) → op c.number ≡ read
    → (window_asked s c.caller c.presented).code ≡ Code.done
    → lies_in c.range (window_asked s c.caller c.presented).window ≡ true
    → (rule s c h).answer.code ≢ Code.done
    → (rule s c h).answer.code ≤ Code.cannot_pay

-- ---- 02, CR 8: "The definition counts passwords; the program counts capabilities. The two are proved equal for every
-- well-formed store."

-- how many capabilities of the object named hold the right; 02, CR 9: the count "leaves expired ones out"
unfoldable pub holding : State → Name → ℕ → ℕ
holding s object right = count_over Limit.caps (λ i.
    cap_lives s i
    && same_name (s.object (s.cap i).object).name object
    && (not (expired s i) && has (s.cap i).rights right))

unfoldable pub PasswordsCaps : Type 0
PasswordsCaps = (s : State) (me : ℕ) (object : Name) (right : ℕ) → Valid s
    → opening s me object right ≡ holding s object right

-- "After that an absent object gives 0."
unfoldable pub AbsentNone : Type 0
AbsentNone = (s : State) (me : ℕ) (object : Name) (right : ℕ) → Valid s → object_named s object ≡ 0
    → opening s me object right ≡ 0

-- ---- 02, CR 10: "some derive_cap gives a capability with exactly those rights, window and last day and the sum as moneyword" is
-- decided by comparisons and a climb

-- of the capability in slot k: its rights hold the wish's, the wish's window lies in its own, the wish's last day is not after its
-- own, and no moneyword from it up to its master is below the sum
unfoldable pub lendable : State → ℕ → Wish → Bool
lendable s k x =
    has (s.cap k).rights x.rights
    && lies_in x.window (s.cap k).window
    && leb x.last_day (s.cap k).last_day
    && not (any (λ i. ltb (s.money i) x.sum) (path s k))

unfoldable pub LendDecided : Type 0
LendDecided = (s : State) (caller : Name) (x : Wish) (e : Capability) → Valid s
    → name_fits caller ≡ true → name_fits e.name ≡ true → wish_fits x ≡ true
    → Lends s caller x e
    ↔ ((first (showing s (shown_slot s caller e) DERIVE_CAP) ≡ Code.done) × (lendable s (shown_slot s caller e) x ≡ true))

-- a question has one answer
unfoldable pub LendFixed : Type 0
LendFixed = (s : State) (caller : Name) (l : List ℕ) (x : Wish) (r q : Lent)
    → LendAsked s caller l x r → LendAsked s caller l x q → r ≡ q

-- what will do is lent by the derive_cap with the wish's own numbers, where 2, 3 and 4 are not met and, of what is "not
-- considered", p1 is not taken and a record is free
unfoldable pub LentDerives : Type 0
LentDerives = (s : State) (c : Call) (h : Choice) (x : Wish) → Valid s → Lends s c.caller x c.presented
    → op c.number ≡ derive_cap
    → c.rights ≡ x.rights → c.range ≡ x.window → c.limit ≡ x.sum → c.last_day ≡ x.last_day
    → early s c ≡ Code.done
    → first (derive_cap_refuses s c (caller s c) (shown_slot s c.caller c.presented)) ≡ Code.done
    → (is_done (rule s c h) ≡ true) × Fulfils (rule s c h).after h.cap x

-- and what a done derive_cap gave could be lent, where the moneywords are enough
unfoldable pub DerivedLends : Type 0
DerivedLends = (s : State) (c : Call) (h : Choice) (x : Wish) → op c.number ≡ derive_cap
    → is_done (rule s c h) ≡ true → Fulfils (rule s c h).after h.cap x
    → ((i : ℕ) → descends s (shown_slot s c.caller c.presented) i ≡ true → x.sum ≤ s.money i)
    → Lends s c.caller x c.presented
