-- rename_obj's own part, exactly: its refusals by tests on the cells, and what it does by stores to them. The slices are
-- those that the fee left; `k` is the slot of the capability presented.
use Rattle.std.specs.Prelude.{ℕ, ◌+◌, ◌≡◌, ◌≢◌, not, List, [], ◌∷◌, eqb, length, set, replicate}
use Rattle.rules.specs.Limit as Limit
use Rattle.rules.specs.Code as Code
use Rattle.rules.specs.Slots.{some}
use Rattle.rules.specs.Store.{Password}
use Rattle.rules.specs.Call.{hands_back}
use Rattle.rules.specs.Refusals.{◌when◌, first}
use Rattle.layout.specs.Layout as Layout
use Rattle.layout.specs.Rows.{master_of, owner_of, parent_of}
use Rattle.layout.specs.View.{view}
use Rattle.layout.specs.WellFormed.{Sized}
use Rattle.call_steps.specs.Run.{Ran, settled}
use Rattle.call_steps.specs.Replies.{Replies}
use Rattle.call_steps.specs.Tests.{ObjectSlot, taken}
use Rattle.call_steps.specs.Request.{Reply}
use Rattle.values.specs.Refusals.{code_of}
use Rattle.call_prune.specs.Links.{pruned_links, LivingCap}
use Rattle.call_prune.specs.Scratch.{scratch_left}

-- ---- the new master in the old one's record

-- its password
unfoldable pub renamed_words : List ℕ → ℕ → Password → List ℕ
renamed_words w k drawn = set (set w (Layout.P1 + k) drawn.p1) (Layout.P2 + k) drawn.p2

pub record RenewAsks (l w : List ℕ) (k : ℕ) : Type 0 where
  pub words : length w ≡ Layout.WORDS
  pub living : LivingCap l k

-- all other capabilities have ended, k has the password drawn, the scratch is all zero
pub record Renews (l w scratch : List ℕ) (k : ℕ) (drawn : Password) (l' w' scratch' : List ℕ) : Type 0 where
  pub links : l' ≡ pruned_links l k
  pub words : w' ≡ renamed_words w k drawn
  pub cleared : scratch' ≡ replicate (length scratch) 0

-- ---- the call: 11 not a master; 12 p1 is taken in the object, the old master's own included

unfoldable pub rename_stop : List ℕ → List ℕ → List ℕ → ℕ → ℕ → ℕ
rename_stop b l w k p1 = first
    (Code.not_master when not (eqb (parent_of l k) 0)
    ∷ Code.taken when some Limit.caps (taken (view b l w) (owner_of l k) p1)
    ∷ [])

-- the new master handed back as drawn
unfoldable pub renamed : List ℕ → List ℕ → List ℕ → ℕ → Password → Ran
renamed b l w k drawn = record {
  answer = (hands_back ((view b l w).object (owner_of l k)).name drawn (view b l w)).answer;
  bytes = b;
  links = pruned_links l k;
  words = renamed_words w k drawn;
}

unfoldable pub rename_run : List ℕ → List ℕ → List ℕ → ℕ → Password → Ran
rename_run b l w k drawn = settled (rename_stop b l w k drawn.p1) b l w (renamed b l w k drawn)

-- what the code asks
pub record RenameAsks (b l w : List ℕ) (k : ℕ) : Type 0 where
  pub sized : Sized b l w
  pub living : LivingCap l k
  -- the object that the capability is for lives
  pub object : ObjectSlot (owner_of l k)
  pub live : master_of l (owner_of l k) ≢ 0

-- the reply r and the slices that are left are the run; the scratch is as its code says
pub record Renames (b l w scratch : List ℕ) (k : ℕ) (drawn : Password) (r : Reply) (l' w' scratch' : List ℕ) : Type 0 where
  pub replies : Replies r b l' w' (rename_run b l w k drawn)
  pub scratch-left : scratch' ≡ scratch_left (code_of r) scratch
