-- The free list of capabilities: what is known of its first record and of those after it, and that the chain is empty
-- exactly when 512 capabilities live.
use Prim.Native.Nat.{ℕ, zero, suc, ◌+◌, ◌≤◌, ◌<◌}
use mathlib.Core.Path.{◌≡◌, refl, ap}
use mathlib.Core.Logic.{◌≢◌}
use mathlib.Core.Bool.{Bool, true, false}
use mathlib.Core.List.{List, [], ◌∷◌}
use native.Mathlib.Omega.{arith}
use lib.Dec.{eqb, leb}
use lib.ListN.{get_or}
use borrow.Author.Tests.{eqb-true, eq-eqb, leb-true, le-leb}
use Rattle.rules.specs.Slots.{at, one, sum_over, count_over}
use Rattle.rules.specs.Store.{cap_lives, caps_live}
use Rattle.rules.proofs.Tests.{by-eq, bool_same, does-live}
use Rattle.rules.proofs.Slots.{at_here, at-else, sum-but}
use Rattle.layout.specs.Layout as Layout
use Rattle.layout.specs.Rows.{owner_of, next_cap_of}
use Rattle.layout.specs.View.{view}
use Rattle.layout.specs.Shape.{Chain, times, count, Caps}
use Rattle.layout.proofs.Counts.{one_same}
use Rattle.layout.proofs.Linking.{sum_one, chain-frame, chain_head}
use Rattle.layout.proofs.Shaped.{cap-held}
use Rattle.layout.proofs.Shown.{cap-object, cap-shown}

-- ---- how many slots pass a test

-- all of them
pub count-all : (n : ℕ) (t : ℕ → Bool) → ((i : ℕ) → 1 ≤ i → i ≤ n → t i ≡ true) → count_over n t ≡ n
unfolding count_over sum_over one
count-all zero t h = refl
count-all (suc n) t h =
    let here : one (t (suc n)) ≡ 1 = ap one (h (suc n) (omega arith) (omega arith)) in
    omega (arith, here, count-all n t (λ i p q. h i p (omega arith)))

one-most : (b : Bool) → one b ≤ 1
unfolding one
one-most true = omega arith
one-most false = omega arith

count_most : (n : ℕ) (t : ℕ → Bool) → count_over n t ≤ n
unfolding count_over sum_over
count_most zero t = omega arith
count_most (suc n) t = omega (arith, one-most (t (suc n)), count_most n t)

-- not all of them
pub count-below : (n : ℕ) (t : ℕ → Bool) (i : ℕ) → 1 ≤ i → i ≤ n → t i ≡ false → count_over n t < n
unfolding count_over one
count-below n t i p q e =
    let f : ℕ → ℕ = λ j. one (t j) in
    let g : ℕ → ℕ = λ j. one (at t i true j) in
    let was : one (t i) ≡ 0 = ap one e in
    let is : one (at t i true i) ≡ 1 = ap one (at_here t i true) in
    let sums : sum_over n g + f i ≡ sum_over n f + g i = sum-but n f g i p q (λ j ne. ap one (at-else t i true j ne)) in
    let most : sum_over n g ≤ n = count_most n (at t i true) in
    omega (arith, was, is, sums, most)

-- ---- the first free record

abbrev head : List ℕ → ℕ
head l = get_or l Layout.FREE_CAPS 0

-- it is of no object and in no tree, and rest is the chain after it, in which it does not stand
pub record FirstFree (l : List ℕ) (c : Caps l) (i : ℕ) : Type 0 where
  pub rest : List ℕ
  pub low : 1 ≤ i
  pub high : i ≤ 512
  pub owner-none : owner_of l i ≡ 0
  pub no-tree : (o : ℕ) → 1 ≤ o → o ≤ 64 → count i (c.tree o) ≡ 0
  pub times-is : (k : ℕ) → times k c.free ≡ one (eqb k i) + times k rest
  pub not-rest : times i rest ≡ 0
  pub chain : Chain 512 (next_cap_of l) (next_cap_of l i) rest

pub first-free : (l : List ℕ) (c : Caps l) → head l ≢ 0 → FirstFree l c (head l)
unfolding times
first-free l c nz =
    let t = chain_head 512 (next_cap_of l) (head l) c.free c.free-chain nz in
    let all : (k : ℕ) → times k c.free ≡ one (eqb k (head l)) + times k t.0 = λ k. ap (times k) t.1 in
    let once = c.once (head l) t.2 t.3 in
    let same = one_same (head l) in
    let here = all (head l) in
    record {
      rest = t.0;
      low = t.2;
      high = t.3;
      owner-none = c.free-owner (head l) (omega (arith, here, same));
      no-tree = λ o p q.
          omega (arith, once, here, same, sum_one 64 (λ o. count (head l) (c.tree o)) o p q);
      times-is = all;
      not-rest = omega (arith, once, here, same);
      chain = t.4;
    }

module _ {l : List ℕ} {c : Caps l} {i : ℕ} (F : FirstFree l c i) where
  -- what is free after it is another record, and was free
  pub rest-other : (k : ℕ) → 1 ≤ times k F.rest → k ≢ i
  rest-other k h e = omega (arith, F.not-rest, ap (λ j. times j F.rest) e)

  pub rest-owner : (k : ℕ) → 1 ≤ times k F.rest → owner_of l k ≡ 0
  rest-owner k h = c.free-owner k (omega (arith, F.times-is k))

  -- the chain after it holds where its link alone is changed
  pub rest-chain : (next : ℕ → ℕ) → ((k : ℕ) → k ≢ i → next k ≡ next_cap_of l k)
      → Chain 512 next (next_cap_of l i) F.rest
  rest-chain next h =
      chain-frame 512 (next_cap_of l) next (next_cap_of l i) F.rest F.chain (λ k p. h k (rest-other k p))

-- ---- 512 capabilities live

chain-none : (n : ℕ) (next : ℕ → ℕ) (h : ℕ) (xs : List ℕ) → Chain n next h xs → h ≡ 0 → (k : ℕ) → times k xs ≡ 0
unfolding Chain times
chain-none n next h [] c z k = refl
chain-none n next h (j ∷ xs) c z k = absurd (omega (arith, c.0, c.1))

module _ (b l w : List ℕ) (c : Caps l) where
  all_live : head l ≡ 0 → caps_live (view b l w) ≡ 512
  unfolding caps_live
  all_live z = count-all 512 (λ i. cap_lives (view b l w) i) (λ i p q.
      let t = cap-held l c i p q (chain-none 512 (next_cap_of l) (head l) c.free c.free-chain z i) in
      does-live (view b l w) i (cap-shown b l w i (λ e. omega (arith, e, t.1.owner-is, t.1.owner-low))))

  -- a free slot does not live
  free-lives : (i : ℕ) → owner_of l i ≡ 0 → cap_lives (view b l w) i ≡ false
  unfolding cap_lives
  free-lives i e = rw (cap-object b l w i, e)

  some-free : head l ≢ 0 → caps_live (view b l w) < 512
  unfolding caps_live
  some-free nz =
      let F = first-free l c nz in
      count-below 512 (λ i. cap_lives (view b l w) i) (head l) F.low F.high (free-lives (head l) F.owner-none)

  -- refusal 13 of derive_cap and make_obj
  pub caps-full : eqb (head l) 0 ≡ leb 512 (caps_live (view b l w))
  caps-full = bool_same (eqb (head l) 0) (leb 512 (caps_live (view b l w)))
      (λ e. le-leb 512 (caps_live (view b l w)) (omega (arith, all_live (eqb-true (head l) 0 e))))
      (λ e. by-eq (head l) 0 (eq-eqb (head l) 0)
      (λ nz. absurd (omega (arith, leb-true 512 (caps_live (view b l w)) e, some-free nz))))

  -- the first free record is a free slot of the rules
  pub first-open : {i : ℕ} → FirstFree l c i → cap_lives (view b l w) i ≡ false
  first-open {i} F = free-lives i F.owner-none
