-- A hash table by chaining: how it grows, and what a search along one of its chains says.
use Prim.Native.Nat.{ℕ, zero, suc, ◌+◌, ◌-◌, ◌≤◌, ◌<◌}
use mathlib.Core.Path.{◌≡◌, refl, sym, ◌∙◌}
use mathlib.Core.Logic.{◌≢◌}
use mathlib.Core.Bool.{Bool, true, false, false≢true}
use mathlib.Core.List.{List}
use lib.ListN.{length, get_or, set, length-set, replicate, length-replicate}
use lib.Seq.{get_or-set_same, get_or-set_other}
use native.Mathlib.Decide.{ℕ_discrete}
use native.Mathlib.Omega.{arith}
use Rattle.layout.specs.Decides.{Decides}
use Rattle.layout.proofs.Deciding.{yes-it, no-it, as-well, refuted}
use Rattle.layout.proofs.Zeros.{zeros}
use Rattle.check_rows.specs.Distinct.{NoneAbove}
use Rattle.check_rows.specs.Buckets.{Up, Links, links_after, InBucket, NoneFrom, Keys, Buckets, Chained, Searched}

-- ---- a chain

module _ {n : ℕ} {next : List ℕ} (l : Links n next) where
  -- what leads up from slot i, leads up from it by one link more
  pub up-on : {i : ℕ} (j : ℕ) → Up n i j → Up n i (get_or next j 0)
  up-on {i} j up ne = go (ℕ_discrete j 0)
    where
      go : Dec (j ≡ 0) → (i < get_or next j 0) × (get_or next j 0 ≤ n)
      go (yes z) = absurd (ne (rw z l.ends))
      go (no some) = let a = up some in let b = l.rises j ne in (omega (arith, a.0, b.0), b.1)

  up-after : {i : ℕ} (d j : ℕ) → Up n i j → Up n i (links_after next d j)
  unfolding links_after
  up-after zero j up = up
  up-after (suc d) j up = up-after d (get_or next j 0) (up-on j up)

  -- a chain has the end of all chains after it
  end_after : (d : ℕ) → links_after next d 0 ≡ 0
  unfolding links_after
  end_after zero = refl
  end_after (suc d) = rw (l.ends, links_after) (end_after d)

  -- a link from a slot that no chain above it has yet changes none of them
  kept-after : {i : ℕ} (x d j : ℕ) → 1 ≤ i → Up n i j → links_after (set next i x) d j ≡ links_after next d j
  unfolding links_after
  kept-after x zero j low up = refl
  kept-after {i} x (suc d) j low up =
      rw (get_or-set_other next i j x 0 off, links_after) (kept-after x d (get_or next j 0) low (up-on j up))
    where
      off : j ≢ i
      off e = omega (arith, (up (λ z. omega arith)).0)

-- by one link more
stands_on : {next : List ℕ} (j k : ℕ) → InBucket next (get_or next j 0) k → InBucket next j k
unfolding links_after
stands_on j k s = record { links = suc s.links; is = s.is }

-- ---- the table

-- no slot was entered
pub no_slot : (K : Keys) (i : ℕ) → ((j : ℕ) → i < j → K.Used j → ⊥)
    → Buckets K (replicate K.places 0) (replicate (K.slots + 1) 0) i
no_slot K i none = record {
  size = length-replicate K.places 0;
  links = record {
    size = length-replicate (K.slots + 1) 0;
    ends = zeros (K.slots + 1) 0;
    rises = λ j ne. absurd (ne (zeros (K.slots + 1) j));
  };
  starts = λ p ne. absurd (ne (zeros K.places p));
  holds = λ j above used. absurd (none j above used);
}

module _ {K : Keys} {heads next : List ℕ} {i : ℕ} (t : Buckets K heads next i) where
  lower : {j : ℕ} → Up K.slots i j → Up K.slots (i - 1) j
  lower up ne = let a = up ne in (omega (arith, a.0), a.1)

  -- slot i is not in use
  pub slot-passed : (K.Used i → ⊥) → Buckets K heads next (i - 1)
  slot-passed none = record {
    size = t.size;
    links = t.links;
    starts = λ p. lower (t.starts p);
    holds = λ j above used. go j above used (ℕ_discrete j i);
  }
    where
      go : (j : ℕ) → i - 1 < j → K.Used j → Dec (j ≡ i) → InBucket next (get_or heads (K.place j) 0) j
      go j above used (yes e) = absurd (none (rw (← e) used))
      go j above used (no ne) = t.holds j (omega arith) used

  module _ (at : ℕ) (at-is : at ≡ K.place i) (room : at < K.places) (low : 1 ≤ i) (high : i ≤ K.slots) where
    heads' : List ℕ
    heads' = set heads at i

    next' : List ℕ
    next' = set next i (get_or heads at 0)

    head-here : get_or heads' at 0 ≡ i
    unfolding heads'
    head-here = get_or-set_same heads at i 0 (omega (arith, t.size))

    head-there : (p : ℕ) → p ≢ at → get_or heads' p 0 ≡ get_or heads p 0
    unfolding heads'
    head-there p ne = get_or-set_other heads at p i 0 ne

    next_here : get_or next' i 0 ≡ get_or heads at 0
    unfolding next'
    next_here = get_or-set_same next i (get_or heads at 0) 0 (omega (arith, t.links.size))

    links' : Links K.slots next'
    unfolding next'
    links' = record {
      size = length-set next i (get_or heads at 0) ∙ t.links.size;
      ends = get_or-set_other next i 0 (get_or heads at 0) 0 (λ e. omega arith) ∙ t.links.ends;
      rises = λ j. go j (ℕ_discrete j i);
    }
      where
        go : (j : ℕ) → Dec (j ≡ i) → Up K.slots j (get_or next' j 0)
        go j (yes e) = rw (e, next_here) (t.starts at)
        go j (no ne) = rw (get_or-set_other next i j (get_or heads at 0) 0 ne) (t.links.rises j)

    starts' : (p : ℕ) → Up K.slots (i - 1) (get_or heads' p 0)
    starts' p = go (ℕ_discrete p at)
      where
        go : Dec (p ≡ at) → Up K.slots (i - 1) (get_or heads' p 0)
        go (yes e) = rw (e, head-here) (λ ne. (omega arith, high))
        go (no ne) = rw (head-there p ne) (lower (t.starts p))

    -- a chain as it was
    stands-kept : (j k : ℕ) → Up K.slots i j → InBucket next j k → InBucket next' j k
    unfolding next'
    stands-kept j k up s = record {
      links = s.links;
      is = kept-after t.links (get_or heads at 0) s.links j low up ∙ s.is;
    }

    holds-above : (j : ℕ) → i < j → K.Used j → InBucket next' (get_or heads' (K.place j) 0) j
    holds-above j above used = go (ℕ_discrete (K.place j) at)
      where
        was : InBucket next' (get_or heads (K.place j) 0) j
        was = stands-kept _ _ (t.starts (K.place j)) (t.holds j above used)

        go : Dec (K.place j ≡ at) → InBucket next' (get_or heads' (K.place j) 0) j
        go (yes e) = rw (e, head-here) (stands_on i j (rw next_here (rw e at was)))
        go (no ne) = rw (head-there (K.place j) ne) was

    -- slot i stands at the head of its chain
    holds-here : InBucket next' (get_or heads' (K.place i) 0) i
    unfolding links_after
    holds-here = rw (← at-is, head-here) (record { links = 0; is = refl })

    pub slot-entered : Buckets K (set heads at i) (set next i (get_or heads at 0)) (i - 1)
    unfolding heads' next'
    slot-entered = record {
      size = length-set heads at i ∙ t.size;
      links = links';
      starts = starts';
      holds = λ j above used. go j above used (ℕ_discrete j i);
    }
      where
        go : (j : ℕ) → i - 1 < j → K.Used j → Dec (j ≡ i) → InBucket next' (get_or heads' (K.place j) 0) j
        go j above used (yes e) = rw e holds-here
        go j above used (no ne) = holds-above j (omega arith) used

  -- ---- what the chain at the place of slot i says of the slots above it

  pub chain-starts : (at : ℕ) → Chained (length next - 1) next i (get_or heads at 0)
  chain-starts at = rw many (record { links = t.links; start = t.starts at })
    where
      many : length next - 1 ≡ K.slots
      many = omega (arith, t.links.size)

  pub none_above : (same : ℕ → ℕ → Type 0) {r : Bool} (at : ℕ) → at ≡ K.place i
      → ((j : ℕ) → same i j → K.Used j × (K.place j ≡ K.place i))
      → Decides (NoneFrom same next i (get_or heads at 0)) r → Decides (NoneAbove same i) r
  none_above same at at-is alike d = as-well d
      (λ none j above s. none j (omega arith) (there j above s) s)
      (λ none k low s same-k. none k (beyond k low s) same-k)
    where
      there : (j : ℕ) → i < j → same i j → InBucket next (get_or heads at 0) j
      there j above s = let a = alike j s in
          rw (at-is, ← a.1) (t.holds j above a.0)

      beyond : (k : ℕ) → 1 ≤ k → InBucket next (get_or heads at 0) k → i < k
      beyond k low s =
          let up : Up K.slots i k = rw s.is at (up-after t.links s.links (get_or heads at 0) (t.starts at)) in
          (up (λ z. omega arith)).0

-- ---- a search along a chain: it has reached slot j, and what is left to ask from there is what was asked

-- the test says no at each slot of the chain from slot j on
abbrev pub NoFrom : (ℕ → Bool → Type 0) → List ℕ → ℕ → Type 0
NoFrom post next j = (k : ℕ) → 1 ≤ k → InBucket next j k → post k false

pub record Along (n : ℕ) (post : ℕ → Bool → Type 0) (next : List ℕ) (head j : ℕ) : Type 0 where
  pub links : Links n next
  pub up : Up n 0 j
  pub on : NoFrom post next j → NoFrom post next head
  pub back : (k : ℕ) → InBucket next j k → InBucket next head k

-- how many slots there can be from slot j on
pub left : ℕ → ℕ → ℕ
left n zero = 0
left n (suc j) = n - j

pub along-start : {n : ℕ} {next : List ℕ} {head : ℕ} (post : ℕ → Bool → Type 0) → Chained n next 0 head
    → Along n post next head head
along-start post c = record { links = c.links; up = c.start; on = λ h. h; back = λ k s. s }

-- a chain that leads up from slot i is one of slots
pub from-any : {n : ℕ} {next : List ℕ} {i head : ℕ} → Chained n next i head → Chained n next 0 head
from-any c = record { links = c.links; start = λ ne. let a = c.start ne in (omega (arith, a.0), a.1) }

module _ {n : ℕ} {post : ℕ → Bool → Type 0} {next : List ℕ} {head j : ℕ} (now : Along n post next head j) where
  pub along-end : j ≤ 0 → Searched post next head true
  along-end z = record {
    none = λ _. now.on (λ k low s. absurd (none k low s));
    some = λ e. absurd (false≢true (sym e));
  }
    where
      none : (k : ℕ) → 1 ≤ k → InBucket next j k → ⊥
      none k low s =
          let e : j ≡ 0 = omega arith in
          omega (arith, sym (end_after now.links s.links) ∙ (rw e at s.is))

  module _ (some : 1 ≤ j) where
    pub along-in : j ≤ n
    along-in = (now.up (λ z. omega arith)).1

    pub along-found : post j true → Searched post next head false
    unfolding links_after
    along-found s = record {
      none = λ e. absurd (false≢true e);
      some = λ _. (j, some, now.back j (record { links = 0; is = refl }), s);
    }

    pub along-on : post j false → Along n post next head (get_or next j 0)
    unfolding links_after
    along-on says = record {
      links = now.links;
      up = up-on now.links j now.up;
      on = λ none. now.on (λ k low s. go none k low s.links s.is);
      back = λ k s. now.back k (stands_on j k s);
    }
      where
        go : NoFrom post next (get_or next j 0) → (k : ℕ) → 1 ≤ k → (d : ℕ) → links_after next d j ≡ k → post k false
        go none k low zero e = rw (← e) says
        go none k low (suc d) e = none k low (record { links = d; is = e })

    pub left-falls : left n (get_or next j 0) < left n j
    unfolding left
    left-falls = go (get_or next j 0) j (now.links.rises j) some along-in
      where
        go : (m j : ℕ) → Up n j m → 1 ≤ j → j ≤ n → left n m < left n j
        go m zero up low high = absurd (omega arith)
        go zero (suc j) up low high = omega arith
        go (suc m) (suc j) up low high = let a = up (λ z. omega arith) in omega (arith, a.0, a.1)

-- where the test says whether a slot is the same as slot i, the search says whether none is
pub searched : {post : ℕ → Bool → Type 0} (same : ℕ → ℕ → Type 0) (i : ℕ) {next : List ℕ} {head : ℕ} (r : Bool)
    → ((k : ℕ) (a : Bool) → post k a → Decides (same i k) a) → Searched post next head r
    → Decides (NoneFrom same next i head) r
searched same i true f s = yes-it (λ k low st. refuted (f k false (s.none refl k low st)) refl)
searched same i false f s = let t = s.some refl in no-it (λ none. none t.0 t.1 t.2 ((f t.0 true t.3).sound refl))
