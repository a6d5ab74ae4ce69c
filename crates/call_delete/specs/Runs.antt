-- The own part of delete_cap, exactly. 01: "no more. The capability and all its descendants end. With a master the
-- object ends too". The slices are those that the fee left; `k` is the slot of the capability presented.
use Rattle.std.specs.Prelude.{ℕ, ◌≤◌, ◌≡◌, true, false, List, eqb}
use Rattle.rules.specs.Code as Code
use Rattle.rules.specs.Limit as Limit
use Rattle.rules.specs.Store.{money_in}
use Rattle.layout.specs.Rows.{owner_of, parent_of}
use Rattle.layout.specs.View.{view}
use Rattle.layout.specs.Shape.{Shape}
use Rattle.layout.specs.WellFormed.{Sized, Cells}
use Rattle.call_steps.specs.Request.{Reply}
use Rattle.values.specs.Refusals.{code_of}
use Rattle.call_steps.specs.Run.{Held, Ran, over}
use Rattle.call_steps.specs.Replies.{Replies}
use Rattle.call_prune.specs.Links.{pruned_links, deleted_links}
use Rattle.call_prune.specs.Scratch.{scratch_left}
use Rattle.call_ending.specs.Forfeit.{ended_words}
use Rattle.call_ending.specs.Links.{ended_links}

-- a master: its descendants end, and then its object with it
unfoldable pub master_links : List ℕ → ℕ → List ℕ
master_links l k = ended_links (pruned_links l k) (owner_of l k) k

unfoldable pub master_words : List ℕ → List ℕ → List ℕ → ℕ → List ℕ
master_words b l w k = ended_words b w (owner_of l k) k

unfoldable pub delete_run : List ℕ → List ℕ → List ℕ → ℕ → Ran
delete_run b l w k = elim (eqb (parent_of l k) 0) [
  | true ↦ over Code.done b (master_links l k) (master_words b l w k)
  | false ↦ over Code.done b (deleted_links l k) w
]

-- ---- what the code asks, and leaves

pub record DeleteAsks (b l w : List ℕ) (k : ℕ) : Type 0 where
  pub sized : Sized b l w
  pub cells : Cells b l
  pub shape : Shape l
  pub held : Held l k
  -- the house has room for the forfeit
  pub total : money_in (view b l w) ≤ Limit.word

-- of a master
pub record MasterAsks (b l w : List ℕ) (k : ℕ) : Type 0 where
  pub asks : DeleteAsks b l w k
  pub top : parent_of l k ≡ 0

pub record MasterEnds (b l w : List ℕ) (k : ℕ) (l' w' : List ℕ) : Type 0 where
  pub links : l' ≡ master_links l k
  pub words : w' ≡ master_words b l w k

-- the reply r and the slices that are left are the run; the scratch is as its code says
pub record Deletes (b l w scratch : List ℕ) (k : ℕ) (r : Reply) (l' w' scratch' : List ℕ) : Type 0 where
  pub replies : Replies r b l' w' (delete_run b l w k)
  pub scratch-left : scratch' ≡ scratch_left (code_of r) scratch
