-- 01, "What each call refuses, in order": refusals in a list, and what all calls share. Refusal 1, the store is not well
-- formed, comes before these and is the slices' own.
use Rattle.std.specs.Prelude.{ℕ, ◌-◌, Bool, true, false, not, ◌&&◌, ◌||◌, List, [], ◌∷◌, leb, ltb, eqb, length}
use Rattle.rules.specs.Store.{Name, Window, State, object_named}
use Rattle.rules.specs.Rights.{Op, make_obj, read, write, cap_info, derive_cap, delete_cap, rename_obj, withdraw}
use Rattle.rules.specs.Rights.{deposit, suspend, resume, apply_lock, send, receive, wait, revive, unknown, op}
use Rattle.rules.specs.Rights.{fee_of, asked, presents, has}
use Rattle.rules.specs.Call.{Call}
use Rattle.rules.specs.Code as Code
use Rattle.rules.specs.Limit as Limit

infix 70 ◌when◌
-- a refusal's number, and whether it is met
pub record Refusal : Type 0 where
  pub number : ℕ
  pub met : Bool

unfoldable pub ◌when◌ : ℕ → Bool → Refusal
n when b = record { number = n; met = b }

-- the first that is met, 0 if none is
unfoldable pub first : List Refusal → ℕ
first [] = 0
first (r ∷ l) = elim r.met [ true ↦ r.number | false ↦ first l ]

-- ---- 2: unknown call or an argument out of range

unfoldable pub name_fits : Name → Bool
name_fits n = leb n.volume Limit.volume && leb n.serial Limit.serial

unfoldable pub ordered : Window → Bool
ordered r = leb r.start r.end

-- a read or write of at most 256 bytes
unfoldable pub transfer_fits : Window → Bool
transfer_fits r = ordered r && leb (r.end - r.start) Limit.transfer

unfoldable pub buffer_fits : Call → Bool
buffer_fits c = leb Limit.buffer c.buffer

unfoldable pub scratch_fits : Call → Bool
scratch_fits c = leb Limit.scratch c.scratch

-- the ranges of a call's own arguments; password halves, sums, starts, ends and second lock words are any 32-bit number
unfoldable pub arguments_fit : Op → Call → Bool
arguments_fit make_obj c = name_fits c.name && leb c.size Limit.size && leb c.flag 1 && leb c.rights Limit.rights
arguments_fit read c = transfer_fits c.range && buffer_fits c
arguments_fit write c = transfer_fits c.range && eqb (length c.text) (c.range.end - c.range.start)
arguments_fit cap_info c = true
arguments_fit derive_cap c = leb c.rights Limit.rights && ordered c.range && leb c.last_day Limit.day
arguments_fit delete_cap c = scratch_fits c
arguments_fit rename_obj c = scratch_fits c
arguments_fit withdraw c = true
arguments_fit deposit c = true
arguments_fit suspend c = true
arguments_fit resume c = true
arguments_fit apply_lock c = ltb c.lock.first Limit.top
arguments_fit send c = leb (length c.text) Limit.message
arguments_fit receive c = buffer_fits c
arguments_fit wait c = true
arguments_fit revive c = true
arguments_fit unknown c = false

-- the caller's name, the name presented where one is, and the call's own arguments
unfoldable pub in_range : Call → Bool
in_range c =
    name_fits c.caller
    && (not (presents (op c.number)) || name_fits c.presented.name)
    && arguments_fit (op c.number) c

-- ---- 3: the caller is absent, a data object, suspended, waiting or terminated

-- the caller's slot, 0 if it is absent
unfoldable pub caller : State → Call → ℕ
caller s c = object_named s c.caller

unfoldable pub running : State → ℕ → Bool
running s me =
    (s.object me).live
    && (s.object me).process
    && not ((s.marks me).suspended || (s.marks me).waiting || (s.marks me).terminated)

-- ---- 2, 3 and 4, in order; 4: cash below the fee
unfoldable pub early : State → Call → ℕ
early s c = first
    (Code.out_of_range when not (in_range c)
    ∷ Code.not_running when not (running s (caller s c))
    ∷ Code.cannot_pay when ltb (s.cash (caller s c)) (fee_of c.number)
    ∷ [])

-- ---- 5, no such object or password; 02, CR 9: 19, the store's day is after the capability's last day, "right after 5"; and 6,
-- right missing

unfoldable pub expired : State → ℕ → Bool
expired s k = ltb (s.cap k).last_day s.day

-- k is the slot of the capability presented, of which the right is asked
unfoldable pub showing : State → ℕ → ℕ → List Refusal
showing s k right =
    Code.not_found when eqb k 0
    ∷ Code.expired when expired s k
    ∷ Code.right_missing when not (has (s.cap k).rights right)
    ∷ []

-- of a call: the right that it asks, where it presents a capability
unfoldable pub presenting : State → ℕ → Op → List Refusal
presenting s k o = elim (presents o) [ true ↦ showing s k (asked o) | false ↦ [] ]

-- a theorem that computes with this file's definitions says `unfolding` and this name
unfoldable pub computes : Unit {0}
unfolding ◌when◌ first name_fits ordered transfer_fits buffer_fits scratch_fits arguments_fit in_range caller running early
    expired showing presenting
computes = tt
