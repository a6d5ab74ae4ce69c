-- A chain of free records: what its cells hold, and that it is the chain of exactly the records from the last down to 1.
-- One law for objects, capabilities and blocks.
use Prim.Native.Nat.{ℕ, zero, suc, ◌+◌, ◌≤◌, ◌<◌}
use mathlib.Core.Path.{◌≡◌, refl, sym, ap, ◌∙◌, fun_ext}
use mathlib.Core.Logic.{◌≢◌}
use mathlib.Core.Bool.{true, false}
use mathlib.Core.List.{List, [], ◌∷◌}
use native.Mathlib.Omega.{arith}
use lib.Dec.{eqb, leb, ltb}
use borrow.Author.Tests.{leb-true, eq-eqb, ne_eqb}
use lib.ListN.{length, get_or, set, length-set}
use lib.Seq.{get_or-set_same, get_or-set_other}
use Rattle.rules.specs.Slots.{one}
use Rattle.layout.specs.Rows.{field}
use Rattle.layout.specs.Shape.{Chain, times}
use Rattle.kernel_fresh.specs.Stores.{chain, free_chain}
use Rattle.rules.proofs.Tests.{by-eq}
use Rattle.layout.proofs.Field.{field_in}
use Rattle.kernel_fresh.proofs.Cells.{field-agree, apart, apart-cells, set_here, set_else}

-- ---- cells

length-chain : (off k : ℕ) (l : List ℕ) → length (chain off k l) ≡ length l
unfolding chain
length-chain off zero l = refl
length-chain off (suc k) l = length-chain off k (set l (off + suc k) k) ∙ length-set l (off + suc k) k

-- a cell outside the records' row
chain-else : (off k : ℕ) (l : List ℕ) (c : ℕ) → ((j : ℕ) → 1 ≤ j → j ≤ k → c ≢ off + j)
    → get_or (chain off k l) c 0 ≡ get_or l c 0
unfolding chain
chain-else off zero l c n = refl
chain-else off (suc k) l c n =
    chain-else off k (set l (off + suc k) k) c (λ j a b. n j a (omega arith))
    ∙ get_or-set_other l (off + suc k) c k 0 (n (suc k) (omega arith) (omega arith))

-- each names the one before it, and 1 names none
chain_next : (off k : ℕ) (l : List ℕ) (j : ℕ) → off + k < length l → j < k
    → get_or (chain off k l) (off + suc j) 0 ≡ j
unfolding chain
chain_next off zero l j h b = absurd (omega arith)
chain_next off (suc k) l j h b = by-eq j k
    (λ e. rw e (chain-else off k (set l (off + suc k) k) (off + suc k) (λ x p q r. omega arith)
    ∙ get_or-set_same l (off + suc k) k 0 (omega arith)))
    (λ n. chain_next off k (set l (off + suc k) k) j (rw length-set (omega arith)) (omega arith))

-- ---- the fields, for `simp`

pub length-free : (head off last : ℕ) (l : List ℕ) → length (free_chain head off last l) ≡ length l
unfolding free_chain
length-free head off last l = length-chain off last (set l head last) ∙ length-set l head last

-- another row
pub free-apart : (n at head off last : ℕ) (l : List ℕ)
    → apart n at head head ≡ true → apart n at (off + 1) (off + last) ≡ true
    → field n at (free_chain head off last l) ≡ field n at l
unfolding free_chain
free-apart n at head off last l a b =
    fun_ext (λ j. field-agree n at (free_chain head off last l) l j
    (λ low high.
    chain-else off last (set l head last) (at + j)
    (λ k p q. apart-cells n at (off + 1) (off + last) j (off + k) b low high (omega arith) (omega arith))
    ∙ get_or-set_other l head (at + j) last 0
    (apart-cells n at head head j head a low high (omega arith) (omega arith))))

-- a cell that is not in the row, and not the head
pub free-else : (head off last : ℕ) (l : List ℕ) (c : ℕ) → apart last off c c ≡ true → eqb c head ≡ false
    → get_or (free_chain head off last l) c 0 ≡ get_or l c 0
unfolding free_chain
free-else head off last l c outside other =
    chain-else off last (set l head last) c
    (λ j p q r. apart-cells last off c c j c outside p q (omega arith) (omega arith) (sym r))
    ∙ set_else l head c last other

-- the head
pub free-head : (head off last : ℕ) (l : List ℕ) → leb head off ≡ true → ltb head (length l) ≡ true
    → get_or (free_chain head off last l) head 0 ≡ last
unfolding free_chain
free-head head off last l below in_list =
    let b : head ≤ off = leb-true head off below in
    chain-else off last (set l head last) head (λ j p q r. omega arith)
    ∙ set_here l head last in_list

-- ---- the chain

-- k records, the last first
pub records : ℕ → List ℕ
records zero = []
records (suc k) = suc k ∷ records k

-- of n records those from last down to 1 are the chain from last on, each once; those after have no next
pub record FreeTo (n last : ℕ) (next : ℕ → ℕ) : Type 0 where
  pub free : List ℕ
  pub free-chain : Chain n next last free
  pub has : (k : ℕ) → 1 ≤ k → k ≤ last → times k free ≡ 1
  pub none : (k : ℕ) → last < k → times k free ≡ 0
  pub after : (k : ℕ) → last < k → next k ≡ 0

times-out : (m k : ℕ) → m < k → times k (records m) ≡ 0
unfolding times records one
times-out zero k h = refl
times-out (suc m) k h = rw (ne_eqb k (suc m) (λ e. omega arith), one) (rw (times-out m k (omega arith)))

times-in : (m k : ℕ) → 1 ≤ k → k ≤ m → times k (records m) ≡ 1
unfolding times records one
times-in zero k a b = absurd (omega arith)
times-in (suc m) k a b = by-eq k (suc m)
    (λ e. rw (eq-eqb k (suc m) e, one) (rw (times-out m k (omega arith))))
    (λ n. rw (ne_eqb k (suc m) n, one) (rw (times-in m k a (omega arith))))

chain-records : (n : ℕ) (next : ℕ → ℕ) (k : ℕ) → k ≤ n → ((j : ℕ) → j < k → next (suc j) ≡ j)
    → Chain n next k (records k)
unfolding Chain records
chain-records n next zero high step = refl
chain-records n next (suc k) high step = (
  refl,
  omega arith,
  high,
  rw (step k (omega arith)) (chain-records n next k (omega arith) (λ j b. step j (omega arith))),
)

-- a chain of free records in a row of zeros
pub free-to : (n head off last : ℕ) (l : List ℕ) → last ≤ n → head ≤ off → off + n < length l
    → field n off l ≡ (λ j. 0)
    → FreeTo n last (field n off (free_chain head off last l))
unfolding free_chain
free-to n head off last l high below fits zero-before =
    let m = set l head last in
    let in_list : off + last < length m = rw length-set (omega arith) in
    record {
      free = records last;
      free-chain = chain-records n (field n off (free_chain head off last l)) last high
          (λ j b. field_in n off (free_chain head off last l) (suc j) (omega arith) (omega arith)
          ∙ chain_next off last m j in_list b);
      has = λ k a b. times-in last k a b;
      none = λ k a. times-out last k a;
      after = λ j a.
          field-agree n off (free_chain head off last l) l j
          (λ p q. chain-else off last m (off + j) (λ x r s u. omega arith)
          ∙ get_or-set_other l head (off + j) last 0 (λ u. omega arith))
          ∙ ap (λ (f : ℕ → ℕ). f j) zero-before;
    }
