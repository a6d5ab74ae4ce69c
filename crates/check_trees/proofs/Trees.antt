-- Trees as parts: a record and the chain of its children, a chain of children, and the tree of one object.
use mathlib.Core.Path.{◌≡◌, refl, ap, sym, ◌∙◌}
use mathlib.Core.Logic.{◌≢◌}
use mathlib.Core.Bool.{Bool, true, false}
use mathlib.Core.List.{List}
use Prim.Native.Nat.{ℕ, ◌+◌, ◌≤◌, ◌<◌}
use native.Mathlib.Omega.{arith}
use lib.Dec.{eqb}
use lib.ListN.{get_or, set, length}
use borrow.Author.Tests.{eq-eqb, eqb-true}
use Rattle.rules.specs.Slots.{one}
use Rattle.layout.specs.Layout as Layout
use Rattle.layout.specs.Rows.{master_of, first_child_of, next_cap_of}
use Rattle.layout.specs.Shape.{Forest, nil, node, count, Sound, SoundIn}
use Rattle.layout.proofs.Field.{field_in}
use Rattle.check_chains.specs.Marking.{VisitMarks, Part, Marking}
use Rattle.check_chains.proofs.Marking.{Made, single, marking-then, marking-broken, marking-nothing}
use Rattle.check_chains.proofs.Marking.{marking-one, marking-refused, marking-falls, unvisited}
use Rattle.check_chains.proofs.Marking.{Going, going_start, going_on, going-broken}
use Rattle.layout.proofs.Counts.{one_same}
use Rattle.check_trees.specs.Parts.{AgreeIn, record_at, children_from, tree_at}

-- ---- a record, and a chain of children

module _ (l : List ℕ) (o parent prev : ℕ) where
  -- a record with its children is the record and the chain of its children
  record-made : (j : ℕ) → Made (record_at l o parent prev j) (single (AgreeIn l o parent prev j) j)
      (children_from l o j 0 (first_child_of l j))
  record-made j = record {
    join = λ _ F agree sound. (F, (agree, sound), λ k. refl);
    split = λ F h. (tt, F, h.0, h.1, λ k. refl);
  }

  -- a chain of children is the first with its children and the chain from its next on
  children-made : (head : ℕ) → head ≢ 0 → Made (children_from l o parent prev head) (record_at l o parent prev head)
      (children_from l o parent head (next_cap_of l head))
  unfolding Sound count
  children-made head ne = record {
    join = λ F R first rest. (node head F R, (refl, first.0, first.1, rest), λ k. refl);
    split = parts;
  }
    where
      parts : (F : Forest) → SoundIn l o parent prev head F → (K R : Forest)
          × (AgreeIn l o parent prev head × SoundIn l o head 0 (first_child_of l head) K)
          × SoundIn l o parent head (next_cap_of l head) R
          × ((k : ℕ) → count k F ≡ one (eqb k head) + count k K + count k R)
      parts nil h = absurd (ne h)
      parts (node j K R) h =
          rw h.0 (K, R, (h.1, h.2), h.3, λ k. refl)

  pub children-end : (head : ℕ) {s : List ℕ} → VisitMarks 512 s → head ≡ 0
      → Marking (children_from l o parent prev head) s s true
  unfolding Sound count
  children-end head m z = marking-nothing true m (λ _. (nil, z)) ended
    where
      ended : (F : Forest) → SoundIn l o parent prev head F → (◌≡◌ {A = Bool} true true) × ((k : ℕ) → count k F ≡ 0)
      ended nil h = (refl, λ k. refl)
      ended (node j K R) h = absurd (omega (arith, h.0, h.1.low))

  -- j does not agree, or it was visited
  pub record-refused : (j : ℕ) {s u : List ℕ} → (AgreeIn l o parent prev j → get_or s j 0 ≡ 0 → ⊥)
      → Marking (record_at l o parent prev j) s u false
  record-refused j {s} {u} f = marking-broken (record-made j) {v = u} (marking-refused j f)

  -- j agrees and is visited, and then its children are sound or not
  pub record-step : (j : ℕ) {s u : List ℕ} {r : Bool} → AgreeIn l o parent prev j → VisitMarks 512 s → get_or s j 0 ≡ 0
      → Marking (children_from l o j 0 (get_or l (Layout.FIRST_CHILD + j) 0)) (set s j 1) u r
      → Marking (record_at l o parent prev j) s u r
  record-step j a m z h = marking-then (record-made j) (marking-one m a.high z a)
      (rw (field_in 512 Layout.FIRST_CHILD l j a.low a.high) h)

-- ---- a loop along a chain of children

-- what is found of the chain from j on, after `back`, is found of the chain from head on, and no record has lost its mark
pub record Along (l : List ℕ) (o parent prev head : ℕ) (start seen : List ℕ) (j back : ℕ) : Type 0 where
  pub going : Going 512 (children_from l o parent back j) seen (children_from l o parent prev head) start
  pub fewer : unvisited seen ≤ unvisited start

pub along-start : (l : List ℕ) (o parent prev head : ℕ) (start : List ℕ) → VisitMarks 512 start
    → Along l o parent prev head start start head prev
along-start l o parent prev head start m = record { going = going_start m; fewer = omega arith }

module _ {l : List ℕ} {o parent prev head : ℕ} {start seen : List ℕ} {j back : ℕ}
    (now : Along l o parent prev head start seen j back) where
  module _ {v : List ℕ} (same : length v ≡ length seen) (found : Marking (record_at l o parent back j) seen v true) where
    -- the record at j was not visited before
    pub along-falls : unvisited v < unvisited seen
    along-falls = marking-falls j same
        (omega (arith, now.going.marks.size, (found.sound refl).1.0.high)) found
        (λ F h. omega (arith, one_same j))

    pub along-on : j ≢ 0 → Along l o parent prev head start v (get_or l (Layout.NEXT_CAP + j) 0) j
    along-on ne =
        let a = (found.sound refl).1.0 in
        record {
          going = rw (← field_in 512 Layout.NEXT_CAP l j a.low a.high)
              (going_on now.going (children-made l o parent back j ne) same found);
          fewer = omega (arith, along-falls, now.fewer);
        }

  pub along-broken : {v u : List ℕ} → j ≢ 0 → Marking (record_at l o parent back j) seen v false
      → Marking (children_from l o parent prev head) start u false
  along-broken ne h = going-broken now.going (children-made l o parent back j ne) h

  pub along-end : j ≡ 0 → Marking (children_from l o parent prev head) start seen true
  along-end z = now.going.leads seen true (children-end l o parent back j now.going.marks z)

-- ---- the tree of one object: its master, and no sibling after it

-- no record: a chain that ends at x
abbrev pub ending : ℕ → Part
ending x = record { Thing = Unit {0}; Fits = λ _. x ≡ 0; holds = λ _ k. 0 }

pub ending-marking : (x : ℕ) {s : List ℕ} → VisitMarks 512 s → Marking (ending x) s s (eqb x 0)
ending-marking x m =
    marking-nothing (eqb x 0) m (λ e. (tt, eqb-true x 0 e)) (λ _ z. (eq-eqb x 0 z, λ k. refl))

module _ (l : List ℕ) (o : ℕ) where
  tree-made : master_of l o ≢ 0
      → Made (tree_at l o) (record_at l o 0 0 (master_of l o)) (ending (next_cap_of l (master_of l o)))
  unfolding Sound count
  tree-made alive = record {
    join = λ K _ root last. (
      node (master_of l o) K nil,
      record { live = λ _. (K, refl, (refl, root.0, root.1, last)); dead = λ z. absurd (alive z) },
      λ k. refl,
    );
    split = λ F h. parts F (h.live alive).0 (h.live alive).1 (h.live alive).2;
  }
    where
      parts : (F K : Forest) → F ≡ node (master_of l o) K nil → SoundIn l o 0 0 (master_of l o) F
          → (K : Forest) × Unit {0}
          × (AgreeIn l o 0 0 (master_of l o) × SoundIn l o (master_of l o) 0 (first_child_of l (master_of l o)) K)
          × (next_cap_of l (master_of l o) ≡ 0)
          × ((k : ℕ) → count k F ≡ one (eqb k (master_of l o)) + count k K + 0)
      parts F K e sound =
          let h : SoundIn l o 0 0 (master_of l o) (node (master_of l o) K nil) = rw e at sound in
          (K, tt, (h.1, h.2), h.3, λ k. ap (λ x. count k x) e)

  module _ (low : 1 ≤ o) (high : o ≤ 64) (m : ℕ) (cell : m ≡ get_or l (Layout.MASTER + o) 0) where
    master-is : m ≡ master_of l o
    master-is = cell ∙ sym (field_in 64 Layout.MASTER l o low high)

    -- a free object has none
    pub tree-dead : {s : List ℕ} → VisitMarks 512 s → m ≡ 0 → Marking (tree_at l o) s s true
    unfolding count
    tree-dead marks z = marking-nothing true marks
        (λ _. (nil, record { live = λ ne. absurd (ne dead); dead = λ _. refl }))
        (λ F h. (refl, λ k. ap (λ x. count k x) (h.dead dead)))
      where
        dead : master_of l o ≡ 0
        dead = sym master-is ∙ z

    alive : m ≢ 0 → master_of l o ≢ 0
    alive ne z = ne (master-is ∙ z)

    pub tree-broken : {s v u : List ℕ} → m ≢ 0 → Marking (record_at l o 0 0 m) s v false → Marking (tree_at l o) s u false
    tree-broken ne g = marking-broken (tree-made (alive ne)) (rw master-is at g)

    -- its master is sound, and then it has a sibling or not
    pub tree-step : {s v : List ℕ} → m ≢ 0 → Marking (record_at l o 0 0 m) s v true → VisitMarks 512 v
        → Marking (tree_at l o) s v (eqb (get_or l (Layout.NEXT_CAP + m) 0) 0)
    tree-step ne g marks =
        let a = (g.sound refl).1.0 in
        marking-then (tree-made (alive ne)) (rw master-is at g)
        (rw (← master-is, field_in 512 Layout.NEXT_CAP l m a.low a.high) (ending-marking _ marks))
