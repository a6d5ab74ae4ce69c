-- The links after the end of an object have the shape of a well-formed store's, and the cells their ranges.
use Prim.Native.Nat.{ℕ, ◌-◌, ◌≤◌}
use mathlib.Core.Path.{◌≡◌, sym, ap, ◌∙◌, subst}
use mathlib.Core.Logic.{◌≢◌}
use mathlib.Core.Bool.{true}
use mathlib.Core.List.{List}
use native.Mathlib.Omega.{arith}
use lib.ListN.{length, get_or}
use borrow.Author.Tests.{eqb-true, eq-eqb}
use Rattle.rules.specs.Slots.{at}
use Rattle.rules.specs.Store.{blocks}
use Rattle.rules.proofs.Tests.{by-eq}
use Rattle.rules.proofs.Slots.{at_here, at-else, find-finds, find-some}
use Rattle.layout.specs.Layout as Layout
use Rattle.layout.specs.Rows.{flag_of, master_of, size_of, first_block_of, next_object_of, next_block_of}
use Rattle.layout.specs.Rows.{owner_of, parent_of, first_child_of, next_cap_of, prev_cap_of}
use Rattle.layout.specs.View.{is_process}
use Rattle.layout.specs.Shape.{Chain, ObjectChains, CapTrees, BlockChains, Objects, Caps, Blocks, Shape}
use Rattle.layout.specs.WellFormed.{Cells}
use Rattle.layout.proofs.Field.{field-low, field-high}
use Rattle.layout.proofs.Shown.{is-set, set-yes, process-lives, process-flag, process-yes}
use Rattle.layout.proofs.Shaped.{shaped}
use Rattle.call_steps.specs.Tests.{ObjectSlot, CapSlot}
use Rattle.call_blocks.specs.Walk.{hop}
use Rattle.call_blocks.proofs.Hops.{hop-block}
use Rattle.call_ending.specs.Links.{last_block, is_before, before, BlocksAsk}
use Rattle.call_ending.specs.Ended.{Last}
use Rattle.call_ending.proofs.Walking.{instead-yes, instead-not, last_none, before_high}
use Rattle.layout.proofs.Joining.{empty, head-none, head-some}
use Rattle.call_ending.proofs.ObjectEnded.{Before, object-ended}
use Rattle.call_ending.proofs.CapEnded.{cap-ended}
use Rattle.call_ending.proofs.BlocksEnded.{last-split, none-given, some-given}
use Rattle.call_ending.proofs.Rows.{EndedRows}

-- ---- what is known of the object

module _ {b l w : List ℕ} {o m : ℕ} (L : Last b l w o m) where
  pub alive : master_of l o ≢ 0
  alive z = L.live (sym L.master ∙ z)

  pub object-slot : ObjectSlot o
  object-slot = record {
    low = field-low 64 Layout.MASTER l o alive;
    high = field-high 64 Layout.MASTER l o alive;
  }

  pub master-owner : owner_of l m ≡ o
  master-owner = ap (owner_of l) (sym L.master) ∙ ((shaped l L.shape).object o alive).master-owner

  pub master-parent : parent_of l m ≡ 0
  master-parent = ap (parent_of l) (sym L.master) ∙ ((shaped l L.shape).object o alive).master-parent

  pub master-lives : owner_of l m ≢ 0
  master-lives z = omega (arith, master-owner, object-slot.low)

  pub cap-slot : CapSlot m
  cap-slot = record {
    low = field-low 512 Layout.OWNER l m master-lives;
    high = field-high 512 Layout.OWNER l m master-lives;
  }

  pub blocks-ask : BlocksAsk l o
  blocks-ask = record {
    links = L.sized.links;
    slot = object-slot;
    chain = ((shaped l L.shape).object o alive).chain;
  }

-- the object before
before_of : (l : List ℕ) (o : ℕ) → Before (next_object_of l) o (before l o)
unfolding before is_before
before_of l o = record {
  none = λ z i a b e. find-some 64 (is_before l o) i a b (eq-eqb _ _ e) z;
  low = λ nz. omega arith;
  high = before_high l o;
  some = λ nz. eqb-true _ _ (find-finds 64 (is_before l o) nz).0;
}

module _ {b l w : List ℕ} {o m : ℕ} (L : Last b l w o m) (l' : List ℕ) (R : EndedRows l l' o m) where
  pub gone : master_of l' o ≡ 0
  gone = (λ k. R.master k o) ∙ at_here (master_of l) o 0

  pub others : (i : ℕ) → i ≢ o → master_of l' i ≡ master_of l i
  others i ne = (λ k. R.master k i) ∙ at-else (master_of l) o 0 i ne

  pub owner-gone : owner_of l' m ≡ 0
  owner-gone = (λ k. R.owner k m) ∙ at_here (owner_of l) m 0

  pub owners : (i : ℕ) → i ≢ m → owner_of l' i ≡ owner_of l i
  owners i ne = (λ k. R.owner k i) ∙ at-else (owner_of l) m 0 i ne

  -- ---- objects

  abbrev next : ℕ → ℕ
  next = next_object_of l

  abbrev q : ℕ
  q = before l o

  abbrev free : ℕ
  free = get_or l Layout.FREE_OBJECTS 0

  objects-shape : Objects l'
  objects-shape =
      let s = object-slot L in
      subst (λ x. ObjectChains (master_of l') (next_object_of l') (get_or l' Layout.OBJECTS 0) x) (sym R.free-objects)
      (object-ended (master_of l) next (get_or l Layout.OBJECTS 0) free L.shape.objects o s.low s.high (alive L)
      q (before_of l o) (master_of l') (next_object_of l') gone others
      (R.object o s.low ∙ at_here (at next q (next o)) o free)
      (λ some ne. R.object q ((before_of l o).low some) ∙ at-else (at next q (next o)) o free q ne
      ∙ at_here next q (next o))
      (λ k low ne nq. R.object k low ∙ at-else (at next q (next o)) o free k ne ∙ at-else next q (next o) k nq)
      (get_or l' Layout.OBJECTS 0)
      (λ e. R.objects ∙ sym (instead-yes (next o) e))
      (λ ne. R.objects ∙ sym (instead-not (next o) ne)))

  -- ---- capabilities

  caps-shape : Caps l'
  caps-shape =
      let s = object-slot L in
      let e = L.master in
      let ended = cap-ended (master_of l) (owner_of l) (parent_of l) (first_child_of l) (next_cap_of l) (prev_cap_of l)
      (get_or l Layout.FREE_CAPS 0) L.shape.caps o s.low s.high (alive L) (rw e L.leaf)
      (master_of l') (owner_of l') (next_cap_of l') gone others
      (ap (owner_of l') e ∙ owner-gone)
      (λ k ne. owners k (λ x. ne (x ∙ sym e)))
      (ap (next_cap_of l') e ∙ (λ k. R.cap k m) ∙ at_here (next_cap_of l) m (get_or l Layout.FREE_CAPS 0))
      (λ i ne. (λ k. R.cap k i) ∙ at-else (next_cap_of l) m (get_or l Layout.FREE_CAPS 0) i (λ x. ne (x ∙ sym e))) in
      rw (R.parent, R.child, R.prev, R.free-caps) (subst (CapTrees (master_of l') (owner_of l') (parent_of l)
      (first_child_of l) (next_cap_of l') (prev_cap_of l)) e ended)

  -- ---- blocks

  abbrev free-block : ℕ
  free-block = get_or l Layout.FREE_BLOCKS 0

  module _ (B : Blocks l) where
    chain-is : Chain 512 (next_block_of l) (first_block_of l o) (B.chain o)
    chain-is = ((B.chains o (object-slot L).low (object-slot L).high).live (alive L)).0

    long : length (B.chain o) ≡ blocks (size_of l o)
    long = ((B.chains o (object-slot L).low (object-slot L).high).live (alive L)).1

    blocks-none : blocks (size_of l o) ≡ 0
        → BlockChains (master_of l') (size_of l) (first_block_of l) (next_block_of l') (get_or l' Layout.FREE_BLOCKS 0)
    blocks-none z =
        let s = object-slot L in
        let first : first_block_of l o ≡ 0 =
        head-none 512 (next_block_of l) (first_block_of l o) (B.chain o) chain-is (long ∙ z) in
        subst (BlockChains (master_of l') (size_of l) (first_block_of l) (next_block_of l'))
        (instead-yes free-block first ∙ sym R.free-blocks)
        (none-given (master_of l) (size_of l) (first_block_of l) (next_block_of l) free-block B o s.low s.high (alive L)
        (master_of l') (next_block_of l') gone others (empty (B.chain o) (long ∙ z))
        (λ k low. R.block k low ∙ at-else (next_block_of l) (last_block l o) free-block k
        (λ e. omega (arith, e, last_none (blocks-ask L) z))))

    blocks-some : blocks (size_of l o) ≢ 0
        → BlockChains (master_of l') (size_of l) (first_block_of l) (next_block_of l') (get_or l' Layout.FREE_BLOCKS 0)
    unfolding last_block
    blocks-some nz =
        let s = object-slot L in
        let first : first_block_of l o ≢ 0 =
        head-some 512 (next_block_of l) (first_block_of l o) (B.chain o) chain-is (λ z. nz (sym long ∙ z)) in
        let i : ℕ = blocks (size_of l o) - 1 in
        let t = last-split 512 (next_block_of l) (first_block_of l o) (B.chain o) i chain-is (omega (arith, long)) in
        let low : 1 ≤ hop (next_block_of l) i (first_block_of l o) =
        (hop-block (next_block_of l) (first_block_of l o) (B.chain o) chain-is i (omega (arith, long))).0 in
        subst (BlockChains (master_of l') (size_of l) (first_block_of l) (next_block_of l'))
        (instead-not free-block first ∙ sym R.free-blocks)
        (some-given (master_of l) (size_of l) (first_block_of l) (next_block_of l) free-block B o s.low s.high (alive L)
        (master_of l') (next_block_of l') gone others t.0 (hop (next_block_of l) i (first_block_of l o)) t.1
        (R.block (last_block l o) low ∙ at_here (next_block_of l) (last_block l o) free-block)
        (λ k a ne. R.block k a ∙ at-else (next_block_of l) (last_block l o) free-block k ne))

  blocks-shape : Blocks l'
  blocks-shape = rw (R.size, R.first)
      (by-eq (blocks (size_of l o)) 0 (blocks-none L.shape.blocks) (blocks-some L.shape.blocks))

  pub ended-shape : Shape l'
  ended-shape = record { objects = objects-shape; caps = caps-shape; blocks = blocks-shape }

  -- ---- cells

  -- what lives now lived before
  lived : (i : ℕ) → master_of l' i ≢ 0 → master_of l i ≢ 0
  lived i h = by-eq i o (λ e. absurd (h (ap (master_of l') e ∙ gone))) (λ ne z. h (others i ne ∙ z))

  was-process : (i : ℕ) → is_process (master_of l') (flag_of b) i ≡ true → is_process (master_of l) (flag_of b) i ≡ true
  was-process i h = process-yes (master_of l) (flag_of b) i (lived i (process-lives (master_of l') (flag_of b) i h))
      (process-flag (master_of l') (flag_of b) i h)

  pub ended-cells : Cells b l'
  ended-cells =
      let C = L.cells in
      record {
        flag = λ i h. C.flag i (set-yes (master_of l i) (lived i (is-set (master_of l' i) h)));
        suspended = λ i h. C.suspended i (was-process i h);
        waiting = λ i h. C.waiting i (was-process i h);
        terminated = λ i h. C.terminated i (was-process i h);
        count = λ i h. C.count i (was-process i h);
        length = λ i k h. C.length i k (was-process i h);
      }
