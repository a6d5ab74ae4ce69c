-- A record put in front of the children of another: the tree with it, how often each record stands there, and that it
-- is sound in the links that have the new record.
use Prim.Native.Nat.{ℕ, ◌+◌, ◌≤◌}
use mathlib.Core.Path.{◌≡◌, refl, sym, ap, ◌∙◌}
use mathlib.Core.Logic.{◌≢◌, ◌⊎◌, inl, inr, ⊎_elim}
use mathlib.Core.Bool.{true, false}
use mathlib.Core.List.{List}
use native.Mathlib.Omega.{arith}
use native.Mathlib.Decide.{ℕ_discrete}
use lib.Dec.{eqb}
use borrow.Author.Tests.{eq-eqb, ne_eqb}
use Rattle.rules.specs.Slots.{one}
use Rattle.rules.proofs.Tests.{by-eq}
use Rattle.layout.specs.Rows.{owner_of, parent_of, first_child_of, next_cap_of, prev_cap_of}
use Rattle.layout.specs.Shape.{Forest, nil, node, count, Agree, Sound, SoundIn}
use Rattle.layout.proofs.Counts.{one_same, one-other}
use Rattle.layout.proofs.Linking.{apart_in, sound-low, sound-frame}

-- n, with no children, in front of the children of x
unfoldable pub grown : ℕ → ℕ → Forest → Forest
grown x n nil = nil
grown x n (node j K R) = elim (eqb j x) [
  | true ↦ node j (node n nil K) R
  | false ↦ node j (grown x n K) (grown x n R)
]

grown-yes : (x n j : ℕ) (K R : Forest) → j ≡ x → grown x n (node j K R) ≡ node j (node n nil K) R
unfolding grown
grown-yes x n j K R e = rw (eq-eqb j x e, grown)

grown-no : (x n j : ℕ) (K R : Forest) → j ≢ x → grown x n (node j K R) ≡ node j (grown x n K) (grown x n R)
unfolding grown
grown-no x n j K R ne = rw (ne_eqb j x ne, grown)

-- a tree with one master stays one
pub grown-root : (x n j : ℕ) (K : Forest) → (L : Forest) × (grown x n (node j K nil) ≡ node j L nil)
unfolding grown
grown-root x n j K = by-eq j x
    (λ e. (node n nil K, grown-yes x n j K nil e))
    (λ ne. (grown x n K, grown-no x n j K nil ne))

-- ---- how often a record stands in it

grown-none : (x n k : ℕ) (F : Forest) → count x F ≡ 0 → count k (grown x n F) ≡ count k F
unfolding count grown
grown-none x n k nil z = refl
grown-none x n k (node j K R) z =
    rw (grown-no x n j K R (λ e. omega (arith, one_same j, ap (λ i. one (eqb i j)) e)))
    (omega (arith, grown-none x n k K (omega arith), grown-none x n k R (omega arith)))

-- n once more
pub grown-count : (x n k : ℕ) (F : Forest) → count x F ≡ 1 → count k (grown x n F) ≡ count k F + one (eqb k n)
unfolding count grown
grown-count x n k nil z = absurd (omega arith)
grown-count x n k (node j K R) z =
    go (ℕ_discrete j x) (ℕ_discrete (count x K) 0) (grown-count x n k K) (grown-count x n k R)
  where
    go : Dec (j ≡ x) → Dec (count x K ≡ 0)
        → (count x K ≡ 1 → count k (grown x n K) ≡ count k K + one (eqb k n))
        → (count x R ≡ 1 → count k (grown x n R) ≡ count k R + one (eqb k n))
        → count k (grown x n (node j K R)) ≡ count k (node j K R) + one (eqb k n)
    go (yes e) d in-K in-R = rw (grown-yes x n j K R e) (omega arith)
    go (no ne) (yes z_k) in-K in-R =
        rw (grown-no x n j K R ne)
        (omega (arith, grown-none x n k K z_k, in-R (omega (arith, one-other x j (λ e. ne (sym e))))))
    go (no ne) (no n_k) in-K in-R =
        rw (grown-no x n j K R ne) (omega (arith, in-K (omega arith), grown-none x n k R (omega arith)))

-- ---- the children of a record

-- a chain is empty, or its head stands in it, below its parent
head_in : (l : List ℕ) (o p q h : ℕ) (F : Forest) → SoundIn l o p q h F
    → (h ≡ 0) ⊎ ((1 ≤ count h F) × (h ≤ 512) × (parent_of l h ≡ p))
unfolding Sound count
head_in l o p q h nil s = inl s
head_in l o p q h (node j K R) s = inr (rw s.0 (omega (arith, one_same j), s.1.high, s.1.parent_is))

abbrev Children : List ℕ → ℕ → ℕ → Forest → Type 0
Children l o x F = (K : Forest) × SoundIn l o x 0 (first_child_of l x) K × ((k : ℕ) → count k K ≤ count k F)

children-of : (l : List ℕ) (o x p q h : ℕ) (F : Forest) → SoundIn l o p q h F → 1 ≤ count x F → Children l o x F
unfolding Sound count
children-of l o x p q h nil s c = absurd (omega arith)
children-of l o x p q h (node j K R) s c =
    go (ℕ_discrete x j) (ℕ_discrete (count x K) 0)
    (children-of l o x j 0 (first_child_of l j) K s.2) (children-of l o x p j (next_cap_of l j) R s.3)
  where
    go : Dec (x ≡ j) → Dec (count x K ≡ 0) → (1 ≤ count x K → Children l o x K) → (1 ≤ count x R → Children l o x R)
        → Children l o x (node j K R)
    go (yes e) d in-K in-R = (K, rw e s.2, λ k. omega arith)
    go (no ne) (yes z) in-K in-R =
        let t = in-R (omega (arith, one-other x j ne)) in (t.0, t.1, λ k. omega (arith, t.2 k))
    go (no ne) (no nz) in-K in-R = let t = in-K (omega arith) in (t.0, t.1, λ k. omega (arith, t.2 k))

-- the first child of a record of F is 0 or a record of F below it
pub first-in : (l : List ℕ) (o x p q h : ℕ) (F : Forest) → SoundIn l o p q h F → 1 ≤ count x F
    → (first_child_of l x ≡ 0)
    ⊎ ((1 ≤ count (first_child_of l x) F) × (first_child_of l x ≤ 512) × (parent_of l (first_child_of l x) ≡ x))
first-in l o x p q h F s c =
    let t = children-of l o x p q h F s c in
    ⊎_elim inl (λ u. inr (omega (arith, u.0, t.2 (first_child_of l x)), u.1, u.2))
    (head_in l o x 0 (first_child_of l x) t.0 t.1)

-- ---- the links with n in front of the children of x, the first of which was f

pub record Joined (l m : List ℕ) (o x n f : ℕ) : Type 0 where
  pub owner-kept : (k : ℕ) → k ≢ n → owner_of m k ≡ owner_of l k
  pub parent-kept : (k : ℕ) → k ≢ n → parent_of m k ≡ parent_of l k
  pub first-kept : (k : ℕ) → k ≢ n → k ≢ x → first_child_of m k ≡ first_child_of l k
  pub next-kept : (k : ℕ) → k ≢ n → next_cap_of m k ≡ next_cap_of l k
  pub prev-kept : (k : ℕ) → 1 ≤ k → k ≢ n → k ≢ f → prev_cap_of m k ≡ prev_cap_of l k
  pub new-owner : owner_of m n ≡ o
  pub new-parent : parent_of m n ≡ x
  pub new-first : first_child_of m n ≡ 0
  pub new-next : next_cap_of m n ≡ f
  pub new-prev : prev_cap_of m n ≡ 0
  pub top-first : first_child_of m x ≡ n
  pub head-prev : 1 ≤ f → prev_cap_of m f ≡ n

module _ (l m : List ℕ) (o x n f : ℕ) (low : 1 ≤ n) (high : n ≤ 512) (J : Joined l m o x n f) where
  -- a forest of any object in which none of the three records stands is sound as before
  pub untouched : (o' p q h : ℕ) (F : Forest) → SoundIn l o' p q h F → count n F ≡ 0 → count x F ≡ 0 → count f F ≡ 0
      → SoundIn m o' p q h F
  untouched o' p q h F s zn zx zf = sound-frame (owner_of l) (parent_of l) (first_child_of l) (next_cap_of l) (prev_cap_of l)
      (owner_of m) (parent_of m) (first_child_of m) (next_cap_of m) (prev_cap_of m) o' p q h F s (λ k c. record {
        owner-same = J.owner-kept k (apart_in k n F c zn);
        above_same = J.parent-kept k (apart_in k n F c zn);
        first-same = J.first-kept k (apart_in k n F c zn) (apart_in k x F c zx);
        next-same = J.next-kept k (apart_in k n F c zn);
        back-same = J.prev-kept k
            (sound-low (owner_of l) (parent_of l) (first_child_of l) (next_cap_of l) (prev_cap_of l) o' p q h F k s c)
            (apart_in k n F c zn) (apart_in k f F c zf);
      })

  -- the children of x now come after n
  moved : (K : Forest) → SoundIn l o x 0 f K → count n K ≡ 0 → count x K ≡ 0 → ((k : ℕ) → count k K ≤ 1)
      → SoundIn m o x n f K
  unfolding Sound count
  moved nil s zn zx d = s
  moved (node j K R) s zn zx d =
      let e : f ≡ j = s.0 in
      let jn : j ≢ n = apart_in j n (node j K R) (omega (arith, one_same j)) zn in
      let jx : j ≢ x = apart_in j x (node j K R) (omega (arith, one_same j)) zx in
      let z_k : count f K ≡ 0 = rw e (omega (arith, d j, one_same j)) in
      let z_r : count f R ≡ 0 = rw e (omega (arith, d j, one_same j)) in
      let prev : prev_cap_of m j ≡ n = rw e at (J.head-prev (omega (arith, s.1.low))) in (
        e,
        record {
          low = s.1.low;
          high = s.1.high;
          owner-is = J.owner-kept j jn ∙ s.1.owner-is;
          parent_is = J.parent-kept j jn ∙ s.1.parent_is;
          prev-is = prev;
        },
        rw (J.first-kept j jn jx) (untouched o j 0 (first_child_of l j) K s.2 (omega arith) (omega arith) z_k),
        rw (J.next-kept j jn) (untouched o x j (next_cap_of l j) R s.3 (omega arith) (omega arith) z_r),
      )

  -- so the children of x are n and those that it had
  headed : (K : Forest) → SoundIn l o x 0 f K → count n K ≡ 0 → count x K ≡ 0 → ((k : ℕ) → count k K ≤ 1)
      → SoundIn m o x 0 (first_child_of m x) (node n nil K)
  unfolding Sound
  headed K s zn zx d = (
    J.top-first,
    record { low = low; high = high; owner-is = J.new-owner; parent_is = J.new-parent; prev-is = J.new-prev },
    J.new-first,
    rw J.new-next (moved K s zn zx d),
  )

  -- a forest of the object, below another parent than x, whether x stands in it or not
  pub grown-sound : (p q h : ℕ) (F : Forest) → f ≡ first_child_of l x → (1 ≤ f → parent_of l f ≡ x) → p ≢ x
      → SoundIn l o p q h F → count n F ≡ 0 → ((k : ℕ) → count k F ≤ 1) → SoundIn m o p q h (grown x n F)
  unfolding Sound count grown
  grown-sound p q h nil fe fp px s zn d = s
  grown-sound p q h (node j K R) fe fp px s zn d =
      go (ℕ_discrete j x)
      (λ jx. grown-sound j 0 (first_child_of l j) K fe fp jx s.2 (omega arith) (λ k. omega (arith, d k)))
      (grown-sound p j (next_cap_of l j) R fe fp px s.3 (omega arith) (λ k. omega (arith, d k)))
    where
      jn : j ≢ n
      jn = apart_in j n (node j K R) (omega (arith, one_same j)) zn

      jf : j ≢ f
      jf e = px (sym s.1.parent_is ∙ ap (λ i. parent_of l i) e ∙ fp (omega (arith, s.1.low, e)))

      agree : Agree (owner_of m) (parent_of m) (prev_cap_of m) o p q j
      agree = record {
        low = s.1.low;
        high = s.1.high;
        owner-is = J.owner-kept j jn ∙ s.1.owner-is;
        parent_is = J.parent-kept j jn ∙ s.1.parent_is;
        prev-is = J.prev-kept j s.1.low jn jf ∙ s.1.prev-is;
      }

      -- where j is x, f stands in K, if anywhere
      zf : SoundIn l o x 0 f K → count f R ≡ 0
      zf kx = ⊎_elim
          (λ e. by-eq (count f R) 0 (λ z. z) (λ nz. absurd (omega (
            arith,
            e,
            sound-low (owner_of l) (parent_of l) (first_child_of l) (next_cap_of l) (prev_cap_of l) o p j (next_cap_of l j) R f s.3
                (omega (arith, nz)),
          ))))
          (λ t. omega (arith, d f, t.0))
          (head_in l o x 0 f K kx)

      here : j ≡ x → SoundIn m o p q h (node j (node n nil K) R)
      here e =
          let kx : SoundIn l o x 0 f K = rw (fe, ← e) s.2 in
          let z_k : count x K ≡ 0 = rw (← e) (omega (arith, d j, one_same j)) in
          let z_r : count x R ≡ 0 = rw (← e) (omega (arith, d j, one_same j)) in (
            s.0,
            agree,
            rw e (headed K kx (omega arith) z_k (λ k. omega (arith, d k))),
            rw (J.next-kept j jn) (untouched o p j (next_cap_of l j) R s.3 (omega arith) z_r (zf kx)),
          )

      go : Dec (j ≡ x) → (j ≢ x → SoundIn m o j 0 (first_child_of l j) (grown x n K))
          → SoundIn m o p j (next_cap_of l j) (grown x n R) → SoundIn m o p q h (grown x n (node j K R))
      go (yes e) in-K in-R = rw (grown-yes x n j K R e) (here e)
      go (no ne) in-K in-R = rw (grown-no x n j K R ne) (
        s.0,
        agree,
        rw (J.first-kept j jn ne) (in-K ne),
        rw (J.next-kept j jn) in-R,
      )
