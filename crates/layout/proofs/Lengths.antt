-- How long the lists of the view are: an object's bytes, a box and its messages.
use Prim.Native.Nat.{ℕ, zero, suc, ◌+◌, ◌*◌, ◌≤◌, ◌<◌}
use mathlib.Core.Path.{◌≡◌, refl, ap, ◌∙◌}
use mathlib.Core.Bool.{true}
use mathlib.Core.List.{List, [], ◌∷◌}
use native.Mathlib.Omega.{arith}
use lib.ListN.{length, take, drop, length-append, length-take, length-drop}
use Rattle.rules.specs.Store.{blocks}
use Rattle.rules.specs.Valid.{Short}
use Rattle.layout.specs.Rows.{flag_of, count_of, length_of, text_in, master_of, sum_of}
use Rattle.layout.specs.View.{is_process, gather, messages, view}
use Rattle.layout.specs.Shape.{Chain}
use Rattle.layout.proofs.Shown.{box-here}

-- 64 bytes for each block of a chain; the store has 513 times 64
pub gather-length : (next : ℕ → ℕ) (store : List ℕ) → length store ≡ 32832
    → (n k : ℕ) (xs : List ℕ) → Chain 512 next k xs → length xs ≡ n → length (gather n next store k) ≡ n * 64
unfolding gather Chain
gather-length next store e zero k xs c h = refl
gather-length next store e (suc n) k [] c h = absurd (omega arith)
gather-length next store e (suc n) k (j ∷ xs) c h =
    let block : length (take 64 (drop (k * 64) store)) ≡ 64 =
    omega (arith, c.0, c.2, length-take 64 (drop (k * 64) store), length-drop (k * 64) store) in
    let rest : length (gather n next store (next k)) ≡ n * 64 =
    gather-length next store e n (next k) xs (rw c.0 c.3) (omega arith) in
    rw (length-append, block, rest) (omega arith)

-- so the first size of them are as many as the size says
pub bytes-length : (next : ℕ → ℕ) (store : List ℕ) (size k : ℕ) (xs : List ℕ) → length store ≡ 32832
    → Chain 512 next k xs → length xs ≡ blocks size → length (take size (gather (blocks size) next store k)) ≡ size
unfolding blocks
bytes-length next store size k xs e c h =
    rw (length-take, gather-length next store e (blocks size) k xs c h) (omega arith)

module _ (len sum : ℕ → ℕ) (text : List ℕ) where
  pub messages-length : (n i : ℕ) → length (messages n len sum text i) ≡ n
  unfolding messages
  messages-length zero i = refl
  messages-length (suc n) i = ap suc (messages-length n (suc i))

  pub messages-short : (n i : ℕ) → ((m : ℕ) → m < n → len (i + m) ≤ 16) → Short (messages n len sum text i)
  unfolding messages
  messages-short zero i h = tt
  messages-short (suc n) i h =
      let here : i + 0 ≡ i = omega arith in
      let short : len i ≤ 16 = rw here at (h 0 (omega arith)) in (
        rw (length-take) (omega arith),
        messages-short n (suc i) (λ m p.
            let next : suc i + m ≡ i + suc m = omega arith in
            rw next (h (suc m) (omega arith))),
      )

-- the box of a process has as many messages as its count says
pub box-length : (b l w : List ℕ) (o : ℕ) → is_process (master_of l) (flag_of b) o ≡ true
    → length ((view b l w).box o) ≡ count_of b o
box-length b l w o h =
    ap length (box-here b l w o h) ∙ messages-length (length_of b) (sum_of w) (text_in b) (count_of b o) (o * 4)
