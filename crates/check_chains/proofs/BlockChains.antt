-- The blocks of one object, and all blocks.
use mathlib.Core.Path.{◌≡◌, refl, ap, sym, ◌∙◌}
use mathlib.Core.Logic.{◌≢◌}
use mathlib.Core.Bool.{Bool, true}
use mathlib.Core.List.{List, []}
use Prim.Native.Nat.{ℕ, ◌+◌, ◌≤◌}
use native.Mathlib.Decide.{ℕ_discrete}
use lib.ListN.{get_or}
use Rattle.rules.specs.Store.{blocks}
use Rattle.layout.specs.Layout as Layout
use Rattle.layout.specs.Rows.{master_of, size_of, first_block_of, next_block_of}
use Rattle.layout.specs.Shape.{times, BlocksOf, Blocks}
use Rattle.layout.proofs.Field.{field_in}
use Rattle.layout.specs.Decides.{Decides}
use Rattle.check_chains.specs.Marking.{VisitMarks, Part, Marking}
use Rattle.check_chains.specs.Parts.{chain_with, Any, Long, blocks_of, blocks_of_all}
use Rattle.check_chains.proofs.Marking.{marking-nothing, marking-as}
use Rattle.layout.proofs.Deciding.{as-well}
use Rattle.check_chains.proofs.Covers.{Inside, chain-inside, each-inside, Covers}

module _ (l : List ℕ) (o : ℕ) (low : 1 ≤ o) (high : o ≤ 64) {s : List ℕ} where
  -- a free object has none
  pub blocks-dead : VisitMarks 512 s → get_or l (Layout.MASTER + o) 0 ≡ 0 → Marking (blocks_of l o) s s true
  unfolding times
  blocks-dead m z = marking-nothing true m
      (λ _. ([], record { live = λ ne. absurd (ne dead); dead = λ _. refl }))
      (λ xs h. (refl, λ k. ap (λ x. times k x) (h.dead dead)))
    where
      dead : master_of l o ≡ 0
      dead = field_in 64 Layout.MASTER l o low high ∙ z

  -- a living one has a chain of as many as its size needs
  pub blocks-live : {u : List ℕ} {r : Bool} (first need : ℕ) → get_or l (Layout.MASTER + o) 0 ≢ 0
      → first ≡ get_or l (Layout.FIRST_BLOCK + o) 0 → need ≡ blocks (get_or l (Layout.SIZE + o) 0)
      → Marking (chain_with 512 (next_block_of l) (Long need) first) s u r → Marking (blocks_of l o) s u r
  blocks-live first need ne first_Cell need-cell = marking-as
      (λ xs h. record {
        live = λ _. ((rw (← first-is) h.0), h.1 ∙ need-is);
        dead = λ z. absurd (alive z);
      })
      (λ xs h. let t = h.live alive in ((rw first-is t.0), t.1 ∙ sym need-is))
    where
      alive : master_of l o ≢ 0
      alive z = ne (sym (field_in 64 Layout.MASTER l o low high) ∙ z)

      first-is : first ≡ first_block_of l o
      first-is = first_Cell ∙ sym (field_in 64 Layout.FIRST_BLOCK l o low high)

      need-is : need ≡ blocks (size_of l o)
      need-is = need-cell ∙ ap blocks (sym (field_in 64 Layout.SIZE l o low high))

-- ---- all blocks

pub blocks-inside : (l : List ℕ) → Inside 512 (blocks_of_all l 64)
unfolding times
blocks-inside l = each-inside (BlocksOf l) (λ xs k. times k xs) 64 512
    (λ o xs h k out. go o xs h k out (ℕ_discrete (master_of l o) 0))
  where
    go : (o : ℕ) (xs : List ℕ) → BlocksOf l o xs → (k : ℕ) → (1 ≤ k → k ≤ 512 → ⊥) → Dec (master_of l o ≡ 0)
        → times k xs ≡ 0
    go o xs h k out (yes z) = ap (λ x. times k x) (h.dead z)
    go o xs h k out (no ne) = chain-inside 512 (next_block_of l) (first_block_of l o) xs (h.live ne).0 k out

-- the chain of the free blocks
abbrev pub free_blocks : List ℕ → Part
free_blocks l = chain_with 512 (next_block_of l) Any (get_or l Layout.FREE_BLOCKS 0)

pub blocks-decided : (l : List ℕ) {r : Bool} → Decides (Covers 512 (blocks_of_all l 64) (free_blocks l)) r
    → Decides (Blocks l) r
blocks-decided l d = as-well d
    (λ x. record { chain = x.0; free = x.1; chains = x.2; free-chain = x.3.0; once = x.4 })
    (λ b. (b.chain, b.free, b.chains, (b.free-chain, tt), b.once))
