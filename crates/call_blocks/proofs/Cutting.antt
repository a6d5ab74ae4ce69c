-- The run of `too_few` and of `take`, as the code comes to it: by whether n is 0.
use Prim.Native.Nat.{ℕ, zero, suc, ◌+◌, ◌-◌, ◌≤◌}
use mathlib.Core.Path.{◌≡◌, refl, sym, ap, ◌∙◌}
use mathlib.Core.Logic.{◌≢◌}
use mathlib.Core.Bool.{false}
use mathlib.Core.List.{List}
use native.Mathlib.Omega.{arith}
use lib.Dec.{eqb}
use lib.ListN.{get_or, set}
use Rattle.layout.specs.Layout as Layout
use Rattle.layout.specs.Rows.{next_block_of}
use Rattle.layout.proofs.Field.{field_in}
use Rattle.call_blocks.specs.Taking.{free_head, free_block, last_taken, too_few, taken_links, Enough}
use Rattle.call_blocks.proofs.Hops.{hop-block}

pub few-none : (l : List ℕ) (n : ℕ) → n ≡ 0 → false ≡ too_few l n
unfolding too_few
few-none l zero e = refl
few-none l (suc n) e = absurd (omega arith)

pub few-some : (l : List ℕ) (n : ℕ) → n ≢ 0 → (r : ℕ) → r ≡ free_block l (n - 1) → eqb r 0 ≡ too_few l n
unfolding too_few
few-some l zero h r e = absurd (h refl)
few-some l (suc n) h r e =
    let p : suc n - 1 ≡ n = omega arith in
    ap (λ x. eqb x 0) (e ∙ ap (free_block l) p)

-- ---- the last of the n blocks

pub last-free : (l : List ℕ) (n : ℕ) → n ≢ 0 → last_taken l n ≡ free_block l (n - 1)
unfolding last_taken
last-free l zero h = absurd (h refl)
last-free l (suc m) h =
    let p : m ≡ suc m - 1 = omega arith in
    ap (free_block l) p

pub record Block (k : ℕ) : Type 0 where
  pub low : 1 ≤ k
  pub high : k ≤ 512

pub last_block : {l : List ℕ} {n : ℕ} → Enough l n → n ≢ 0 → (k : ℕ) → k ≡ free_block l (n - 1) → Block k
last_block {l} {n} a h k e =
    let t = hop-block (next_block_of l) (free_head l) a.chain.0 a.chain.1 (n - 1) (omega (arith, a.chain.2)) in
    rw e (record { low = t.0; high = t.1 })

-- the last that is taken is one
pub taken-block : {l : List ℕ} {n k : ℕ} → Enough l n → n ≢ 0 → k ≡ last_taken l n → Block k
taken-block {l} {n} a h e = last_block a h _ (e ∙ last-free l n h)

-- ---- the chain cut

pub taken_none : (l : List ℕ) (o n : ℕ) → n ≡ 0 → set l (Layout.FIRST_BLOCK + o) 0 ≡ taken_links l o n
unfolding taken_links
taken_none l o zero e = refl
taken_none l o (suc n) e = absurd (omega arith)

cut : List ℕ → ℕ → ℕ → ℕ → List ℕ
cut l o k v = set
    (set (set l Layout.FREE_BLOCKS v) (Layout.NEXT_BLOCK + k) 0) (Layout.FIRST_BLOCK + o) (free_head l)

pub taken-some : (l : List ℕ) (o n : ℕ) → n ≢ 0 → (k : ℕ) → k ≡ free_block l (n - 1) → Block k
    → set
    (set (set l Layout.FREE_BLOCKS (get_or l (Layout.NEXT_BLOCK + k) 0)) (Layout.NEXT_BLOCK + k) 0)
    (Layout.FIRST_BLOCK + o)
    (free_head l)
    ≡ taken_links l o n
unfolding taken_links cut
taken-some l o zero h k e b = absurd (h refl)
taken-some l o (suc n) h k e b =
    let p : suc n - 1 ≡ n = omega arith in
    ap (cut l o k) (sym (field_in 512 Layout.NEXT_BLOCK l k b.low b.high))
    ∙ ap (λ x. cut l o x (next_block_of l x)) (e ∙ ap (free_block l) p)
