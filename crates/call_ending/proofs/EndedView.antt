-- What the store means after the end of an object: 01, "With a master the object ends too; its moneyword, cash and box
-- sums go to the house."
use Prim.Native.Nat.{ℕ, ◌+◌, ◌-◌, ◌≤◌}
use mathlib.Core.Path.{◌≡◌, refl, sym, ap, ◌∙◌}
use mathlib.Core.Logic.{◌≢◌}
use mathlib.Core.Bool.{false}
use mathlib.Core.List.{List, [], ◌∷◌}
use native.Mathlib.Omega.{arith}
use lib.Dec.{eqb}
use lib.ListN.{length, get_or, set, length-set}
use Rattle.rules.specs.Slots.{at}
use Rattle.rules.specs.Store.{State, blocks, no_object, no_lockword, no_marks, no_cap}
use Rattle.rules.specs.Update.{with_house, with_cap, with_money}
use Rattle.rules.specs.Changes.{to_house, end_where, new_object, end_object}
use Rattle.rules.proofs.Tests.{by-eq}
use Rattle.rules.proofs.Slots.{at-else}
use Rattle.layout.specs.Layout as Layout
use Rattle.layout.specs.Rows.{master_of, size_of, first_block_of, next_block_of, flag_of}
use Rattle.layout.specs.Rows.{cash_of, lock1_of, lock2_of, sum_of, p1_of, p2_of, money_of, start_of, end_of}
use Rattle.layout.specs.View.{is_process, view}
use Rattle.layout.specs.Shape.{times}
use Rattle.layout.specs.WellFormed.{Sized}
use Rattle.layout.proofs.Field.{at-is, field-low, field-high}
use Rattle.layout.proofs.Puts.{Put, put, head_puts, field-kept}
use Rattle.layout.proofs.Linking.{chain-low}
use Rattle.layout.proofs.Shown.{process-no, object-none, bytes-none, lock-none, cash-none, marks-none, box-none}
use Rattle.layout.proofs.Shown.{cap-none, money-none}
use Rattle.layout.proofs.Frame.{state-is, day-same, object-same-at, bytes-same-at, lock-same-at, cash-same-at, marks-same-at}
use Rattle.layout.proofs.Frame.{box-same-at, cap-same-at, money-same-at}
use Rattle.call_blocks.proofs.Hops.{hop-in}
use Rattle.call_ending.specs.Links.{last_block, ended_links}
use Rattle.call_ending.specs.Forfeit.{forfeited, ended_words}
use Rattle.call_ending.specs.Ended.{Last}
use Rattle.call_ending.proofs.Walking.{last_none, last_high}
use Rattle.call_ending.proofs.BlocksEnded.{not_there}
use Rattle.call_ending.proofs.Rows.{EndedRows, ended-rows}
use Rattle.call_ending.proofs.EndedShape.{alive, object-slot, cap-slot, blocks-ask, gone, others, owner-gone, owners}

-- ---- the words: the house has n more

pub record Housed (w w' : List ℕ) (n : ℕ) : Type 0 where
  pub house : get_or w' Layout.HOUSE 0 ≡ get_or w Layout.HOUSE 0 + n
  pub cash : cash_of w' ≡ cash_of w
  pub lock1 : lock1_of w' ≡ lock1_of w
  pub lock2 : lock2_of w' ≡ lock2_of w
  pub sum : sum_of w' ≡ sum_of w
  pub p1 : p1_of w' ≡ p1_of w
  pub p2 : p2_of w' ≡ p2_of w
  pub money : money_of w' ≡ money_of w
  pub start : start_of w' ≡ start_of w
  pub end : end_of w' ≡ end_of w

pub housed : (w : List ℕ) (n : ℕ) → length w ≡ Layout.WORDS
    → Housed w (set w Layout.HOUSE (get_or w Layout.HOUSE 0 + n)) n
housed w n long =
    let ws : List Put = put 0 Layout.HOUSE 0 (get_or w Layout.HOUSE 0 + n) ∷ [] in
    record {
      house = head_puts Layout.HOUSE w (omega arith) ws refl (omega arith);
      cash = field-kept 64 Layout.CASH w ws refl (omega arith);
      lock1 = field-kept 64 Layout.LOCK1 w ws refl (omega arith);
      lock2 = field-kept 64 Layout.LOCK2 w ws refl (omega arith);
      sum = field-kept 259 Layout.SUM w ws refl (omega arith);
      p1 = field-kept 512 Layout.P1 w ws refl (omega arith);
      p2 = field-kept 512 Layout.P2 w ws refl (omega arith);
      money = field-kept 512 Layout.MONEY w ws refl (omega arith);
      start = field-kept 512 Layout.START w ws refl (omega arith);
      end = field-kept 512 Layout.END w ws refl (omega arith);
    }

-- ---- each part

module _ {b l w : List ℕ} {o m : ℕ} (L : Last b l w o m) (l' w' : List ℕ) (R : EndedRows l l' o m)
    (n : ℕ) (H : Housed w w' n) where
  abbrev s : State
  s = view b l w

  abbrev s' : State
  s' = view b l' w'

  no-process : is_process (master_of l') (flag_of b) o ≡ false
  no-process = process-no (master_of l') (flag_of b) o (gone L l' R)

  objects-are : s'.object ≡ at s.object o no_object
  objects-are = at-is s.object s'.object o no_object (object-none b l' w' o (gone L l' R))
      (λ j ne. object-same-at b l w b l' w' j (others L l' R j ne) refl (λ k. R.serial k j) (λ k. R.size k j) refl)

  -- the last block of o is in no other object's chain
  links-kept : (j : ℕ) → master_of l j ≢ 0 → j ≢ o → (k : ℕ) → 1 ≤ times k (L.shape.blocks.chain j)
      → next_block_of l' k ≡ next_block_of l k
  unfolding last_block
  links-kept j lives ne k p =
      let B = L.shape.blocks in
      let low = field-low 64 Layout.MASTER l j lives in
      let high = field-high 64 Layout.MASTER l j lives in
      let k-low =
      chain-low 512 (next_block_of l) (first_block_of l j) (B.chain j) k ((B.chains j low high).live lives).0 p in
      let s = object-slot L in
      let mine = (B.chains o s.low s.high).live (alive L) in
      R.block k k-low ∙ at-else (next_block_of l) (last_block l o) (get_or l Layout.FREE_BLOCKS 0) k (λ e.
      by-eq (blocks (size_of l o)) 0
      (λ z. omega (arith, e, k-low, last_none (blocks-ask L) z))
      (λ nz.
      let in-it = hop-in (next_block_of l) (first_block_of l o) (B.chain o) mine.0 (blocks (size_of l o) - 1)
      (omega (arith, mine.1)) in
      omega (
        arith,
        p,
        ap (λ x. times x (B.chain j)) e,
        not_there (master_of l) (size_of l) (first_block_of l)
            (next_block_of l) (get_or l Layout.FREE_BLOCKS 0) B o s.low s.high (alive L) (master_of l')
            (next_block_of l')
            (gone L l' R) (others L l' R) (last_block l o) in-it j low high ne,
      )))

  bytes-are : s'.bytes ≡ at s.bytes o []
  bytes-are = at-is s.bytes s'.bytes o [] (bytes-none b l' w' o (gone L l' R)) (λ j ne. by-eq (master_of l j) 0
      (λ z. bytes-none b l' w' j (others L l' R j ne ∙ z) ∙ sym (bytes-none b l w j z))
      (λ lives. bytes-same-at b l w b l' w' j (L.shape.blocks.chain j)
      (L.shape.blocks.chains j (field-low 64 Layout.MASTER l j lives) (field-high 64 Layout.MASTER l j lives))
      (others L l' R j ne) (λ k. R.size k j) (λ k. R.first k j) (links-kept j lives ne) (λ k _. refl)))

  locks-are : s'.lock ≡ at s.lock o no_lockword
  locks-are = at-is s.lock s'.lock o no_lockword (lock-none b l' w' o no-process)
      (λ j ne. lock-same-at b l w b l' w' j (others L l' R j ne) refl (λ k. H.lock1 k j) (λ k. H.lock2 k j))

  cash-is : s'.cash ≡ at s.cash o 0
  cash-is = at-is s.cash s'.cash o 0 (cash-none b l' w' o no-process)
      (λ j ne. cash-same-at b l w b l' w' j (others L l' R j ne) refl (λ k. H.cash k j))

  marks-are : s'.marks ≡ at s.marks o no_marks
  marks-are = at-is s.marks s'.marks o no_marks (marks-none b l' w' o no-process)
      (λ j ne. marks-same-at b l w b l' w' j (others L l' R j ne) refl refl refl refl)

  boxes-are : s'.box ≡ at s.box o []
  boxes-are = at-is s.box s'.box o [] (box-none b l' w' o no-process)
      (λ j ne. box-same-at b l w b l' w' j (others L l' R j ne) refl refl (λ i _ _. refl)
      (λ i _ _ k. H.sum k i) (λ i _ _. refl))

  caps-are : s'.cap ≡ at s.cap m no_cap
  caps-are = at-is s.cap s'.cap m no_cap (cap-none b l' w' m (owner-gone L l' R))
      (λ j ne. cap-same-at b l w b l' w' j (owners L l' R j ne) (λ k. R.parent k j) (λ k. H.p1 k j)
      (λ k. H.p2 k j) (λ k. H.start k j) (λ k. H.end k j) (λ k. R.rights k j)
      (λ k. R.last-day k j))

  money-is : s'.money ≡ at s.money m 0
  money-is = at-is s.money s'.money m 0 (money-none b l' w' m (owner-gone L l' R))
      (λ j ne. money-same-at b l w b l' w' j (owners L l' R j ne) (λ k. H.money k j))

  house-is : s'.house ≡ s.house + n
  unfolding view
  house-is = H.house

  shows : s' ≡ to_house (end_object (end_where s (λ i. eqb i m)) o) n
  unfolding to_house end_object new_object end_where with_house with_cap with_money no_object no_marks at
  shows = state-is s' (to_house (end_object (end_where s (λ i. eqb i m)) o) n)
      house-is (day-same b l w b l' w' R.day) objects-are bytes-are locks-are cash-is marks-are boxes-are caps-are money-is

-- ---- the whole

module _ {b l w : List ℕ} {o m : ℕ} (L : Last b l w o m) where
  pub rows : EndedRows l (ended_links l o m) o m
  rows = ended-rows l L.sized.links o m (object-slot L) (cap-slot L) (last_high (blocks-ask L))

  pub ended-view : view b (ended_links l o m) (ended_words b w o m)
      ≡ to_house (end_object (end_where (view b l w) (λ i. eqb i m)) o) (forfeited b w o m)
  unfolding ended_words
  ended-view = shows L (ended_links l o m) (ended_words b w o m) rows (forfeited b w o m)
      (housed w (forfeited b w o m) L.sized.words)

  pub ended-sized : Sized b (ended_links l o m) (ended_words b w o m)
  unfolding ended_words
  ended-sized = record {
    bytes = L.sized.bytes;
    links = rows.long ∙ L.sized.links;
    words = length-set w Layout.HOUSE (get_or w Layout.HOUSE 0 + forfeited b w o m) ∙ L.sized.words;
  }
