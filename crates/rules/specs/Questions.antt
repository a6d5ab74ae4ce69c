-- 02's free questions: they cost nothing and change nothing, so each is a function of the store. Refusal 1, the store is
-- not well formed, comes before these and is the slices' own.
use Rattle.std.specs.Prelude.{ℕ, zero, suc, ◌+◌, ◌-◌, ◌*◌, ◌/◌, ◌≤◌, ◌<◌, ◌≡◌, ◌≢◌, Bool, true, false, not, ◌&&◌, List, [], ◌∷◌, eqb, leb, length, get_or}
use Rattle.rules.specs.Code as Code
use Rattle.rules.specs.Limit as Limit
use Rattle.rules.specs.Slots.{one, some}
use Rattle.rules.specs.Store.{Name, Window, State, descends, object_named, no_window}
use Rattle.rules.specs.Rights.{READ, DERIVE_CAP, is_right, op, derive_cap}
use Rattle.rules.specs.Call.{Capability, Call, Choice}
use Rattle.rules.specs.Password.{presented}
use Rattle.rules.specs.Refusals.{Refusal, ◌when◌, first, name_fits, ordered, in_range, running, showing}
use Rattle.rules.specs.Calls.{does}

-- the slot of the capability that the caller presents
unfoldable pub shown_slot : State → Name → Capability → ℕ
shown_slot s caller x = presented s (object_named s caller) x

-- ---- 02, CR 3: "the window of a capability presented by a caller, under READ, with read's 1, 2, 3, 5 and 6"; CR 9: 19
-- "right after 5 in every call and in the drive's window question"

-- 0 or the refusal, and the window; a refusal's is 0 and 0
pub record Windowed : Type 0 where
  pub code : ℕ
  pub window : Window

-- 2, of the two names, then 3, 5, 19 (02, CR 9) and 6
unfoldable pub window_refuses : State → Name → Capability → List Refusal
window_refuses s caller x =
    Code.out_of_range when not (name_fits caller && name_fits x.name)
    ∷ Code.not_running when not (running s (object_named s caller))
    ∷ showing s (shown_slot s caller x) READ

unfoldable pub unwindowed : ℕ → Windowed
unwindowed n = record { code = n; window = no_window }

-- the refusal n; where n is 0, the window
unfoldable pub windowed_by : ℕ → Window → Windowed
windowed_by n v = elim (eqb n Code.done) [ true ↦ record { code = Code.done; window = v } | false ↦ unwindowed n ]

unfoldable pub window_asked : State → Name → Capability → Windowed
window_asked s caller x = windowed_by (first (window_refuses s caller x)) (s.cap (shown_slot s caller x)).window

-- ---- 02, CR 8: "the number of the 2 to the power 64 passwords which, presented by a named process for one object and one
-- right, would get past 5 and 6"

-- the process in slot me presents the password p1, p2 for the object named, and 5, 19 and 6 are not
-- met; 02, CR 9: "The password count of CR 8 leaves expired ones out."
unfoldable pub opens : State → ℕ → Name → ℕ → (p1 p2 : ℕ) → Bool
opens s me object right p1 p2 =
    let x : Capability = record { name = object; password = record { p1 = p1; p2 = p2 } } in
    eqb (first (showing s (presented s me x) right)) Code.done

-- the sum of f over 0 to n - 1
unfoldable pub sum_below : ℕ → (ℕ → ℕ) → ℕ
sum_below zero f = 0
sum_below (suc n) f = f n + sum_below n f

-- how many passwords do, of all of them. It is stated and never computed
unfoldable pub opening : State → ℕ → Name → ℕ → ℕ
opening s me object right =
    sum_below Limit.half (λ p1. sum_below Limit.half (λ p2. one (opens s me object right p1 p2)))

-- 0 or the refusal, and the number; a refusal's is 0
pub record Counted : Type 0 where
  pub code : ℕ
  pub count : ℕ

-- "a right that is not one of the thirteen, or a name out of range, is 2. Then an absent process or a data object as the
-- caller is 3, and marks are not looked at"
unfoldable pub count_refuses : State → (caller object : Name) → (right : ℕ) → List Refusal
count_refuses s caller object right =
    let me : ℕ = object_named s caller in
    Code.out_of_range when not (is_right right && name_fits caller && name_fits object)
    ∷ Code.not_running when not ((s.object me).live && (s.object me).process)
    ∷ []

unfoldable pub uncounted : ℕ → Counted
uncounted n = record { code = n; count = 0 }

-- the refusal n; where n is 0, the number
unfoldable pub counted_by : ℕ → ℕ → Counted
counted_by n m = elim (eqb n Code.done) [ true ↦ record { code = Code.done; count = m } | false ↦ uncounted n ]

unfoldable pub passwords_asked : State → (caller object : Name) → (right : ℕ) → Counted
passwords_asked s caller object right =
    counted_by (first (count_refuses s caller object right)) (opening s (object_named s caller) object right)

-- ---- 02, CR 10: "What can I lend from what I hold?"

-- "a wish: rights, a window with start at most end, a sum and a last day"
pub record Wish : Type 0 where
  pub rights : ℕ
  pub window : Window
  pub sum : ℕ
  pub last_day : ℕ

-- slot i holds "a capability with exactly those rights, window and last day and the sum as moneyword"
pub record Fulfils (s : State) (i : ℕ) (x : Wish) : Type 0 where
  pub rights : (s.cap i).rights ≡ x.rights
  pub window : (s.cap i).window ≡ x.window
  pub last_day : (s.cap i).last_day ≡ x.last_day
  pub money : s.money i ≡ x.sum

-- "some derive_cap gives" it: a call by which the caller presents e, with any mask, range, limit and last day that are in range,
-- does so in whatever slot it takes. "Free records, fees and drawn numbers are not considered": 4, 12 and 13 are not asked
pub record Gives (s : State) (caller : Name) (x : Wish) (e : Capability) : Type 0 where
  pub call : Call
  pub is : op call.number ≡ derive_cap
  pub by : call.caller ≡ caller
  pub from : call.presented ≡ e
  pub fits : in_range call ≡ true
  pub fulfils : (h : Choice)
      → Fulfils (does s call (object_named s caller) (shown_slot s caller e) h derive_cap).after h.cap x

-- the caller can lend the wish from e
pub record Lends (s : State) (caller : Name) (x : Wish) (e : Capability) : Type 0 where
  -- "That one must pass the mill's own password test, not be expired, and hold DERIVE_CAP": 5, 19 and 6
  pub shows : first (showing s (shown_slot s caller e) DERIVE_CAP) ≡ Code.done
  pub gives : Gives s caller x e
  -- "every moneyword from the listed one up to its master being at least the sum"
  pub enough : (i : ℕ) → descends s (shown_slot s caller e) i ≡ true → x.sum ≤ s.money i

-- the list, as volume, serial, p1 and p2 of each capability: how many they are
unfoldable pub entries : List ℕ → ℕ
entries l = length l / Limit.entry

-- and the one at a place, "counted from 1"
unfoldable pub entry : List ℕ → ℕ → Capability
entry l place =
    let i : ℕ = Limit.entry * (place - 1) in
    record {
      name = record { volume = get_or l i 0; serial = get_or l (i + 1) 0 };
      password = record { p1 = get_or l (i + 2) 0; p2 = get_or l (i + 3) 0 };
    }

-- "a longer list, or an entry or a wish out of range, is 2"; an entry that is cut off is out of range
unfoldable pub list_fits : List ℕ → Bool
list_fits l =
    eqb (Limit.entry * entries l) (length l)
    && leb (entries l) Limit.entries
    && not (some (entries l) (λ place. not (name_fits (entry l place).name)))

unfoldable pub wish_fits : Wish → Bool
wish_fits x = leb x.rights Limit.rights && ordered x.window && leb x.last_day Limit.day

-- 2 and 3
unfoldable pub lend_refuses : State → Name → List ℕ → Wish → List Refusal
lend_refuses s caller l x =
    Code.out_of_range when not (name_fits caller && list_fits l && wish_fits x)
    ∷ Code.not_running when not (running s (object_named s caller))
    ∷ []

-- 0 or the refusal, and the place; a refusal's is 0
pub record Lent : Type 0 where
  pub code : ℕ
  pub place : ℕ

unfoldable pub unlent : ℕ → Lent
unlent n = record { code = n; place = 0 }

-- place is the first of 1 to n for which P holds
pub record FirstOf (n : ℕ) (P : ℕ → Type 0) (place : ℕ) : Type 0 where
  pub some : 1 ≤ place
  pub low : place ≤ n
  pub holds : P place
  pub before : (j : ℕ) → 1 ≤ j → j < place → P j → ⊥

-- P holds for none of 1 to n
abbrev pub NoneOf : ℕ → (ℕ → Type 0) → Type 0
NoneOf n P = (j : ℕ) → 1 ≤ j → j ≤ n → P j → ⊥

-- r is answered: 2 or 3, else the place of "the first one in its list" that will do, else 21, "none in the list will do"
pub record LendAsked (s : State) (caller : Name) (l : List ℕ) (x : Wish) (r : Lent) : Type 0 where
  pub refused : first (lend_refuses s caller l x) ≢ Code.done → r ≡ unlent (first (lend_refuses s caller l x))
  pub found : first (lend_refuses s caller l x) ≡ Code.done → r.code ≡ Code.done
      → FirstOf (entries l) (λ place. Lends s caller x (entry l place)) r.place
  pub none : first (lend_refuses s caller l x) ≡ Code.done → r.code ≢ Code.done
      → (r ≡ unlent Code.none_will_do) × NoneOf (entries l) (λ place. Lends s caller x (entry l place))

-- a theorem that computes with this file's definitions, but for the sum over all passwords, says `unfolding` and this name
unfoldable pub computes : Unit {0}
unfolding shown_slot window_refuses unwindowed windowed_by window_asked opens count_refuses uncounted counted_by passwords_asked
    entries entry list_fits wish_fits lend_refuses unlent
computes = tt
