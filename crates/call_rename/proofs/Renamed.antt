-- "All capabilities end; a new master has the old one's moneyword, window and rights": what the stores of rename_obj
-- mean. The old one's last day stays: it is a master's. Every capability of the object descends from its master, so those
-- below k are all but k.
use Prim.Native.Nat.{ℕ, ◌≤◌}
use mathlib.Core.Path.{◌≡◌, refl, sym, ap, ◌∙◌, subst}
use mathlib.Core.Logic.{◌≢◌, ⊎_elim}
use mathlib.Core.Bool.{Bool, true, false, not}
use mathlib.Core.List.{List, [], ◌∷◌}
use native.Mathlib.Omega.{arith}
use lib.Dec.{eqb}
use lib.ListN.{length, get_or}
use borrow.Author.Tests.{eqb-true, eqb-false, ne_eqb}
use Rattle.rules.specs.Limit as Limit
use Rattle.rules.specs.Slots.{at}
use Rattle.rules.specs.Store.{Password, State, descends}
use Rattle.rules.specs.Valid.{Lives, Caps}
use Rattle.rules.specs.Call.{Call}
use Rattle.rules.specs.Update.{with_cap, with_money}
use Rattle.rules.specs.Changes.{end_where, new_cap}
use Rattle.rules.specs.Calls.{emptied, new_master}
use Rattle.rules.proofs.Tests.{by_bool, by-eq, both_true, all2, pick_yes}
use Rattle.rules.proofs.Slots.{at_here, at-else}
use Rattle.rules.proofs.Forest.{descends-in, master-above, master-unique}
use Rattle.rules.proofs.Ending.{end-cap, stay-cap, stay-money}
use Rattle.layout.specs.Layout as Layout
use Rattle.layout.specs.Rows.{owner_of, parent_of, last_day_of}
use Rattle.layout.specs.Rows.{cash_of, lock1_of, lock2_of, sum_of, p1_of, p2_of, money_of, start_of, end_of}
use Rattle.layout.specs.View.{view}
use Rattle.layout.specs.WellFormed.{WellFormed}
use Rattle.layout.proofs.Field.{at-is}
use Rattle.layout.proofs.Plain.{plain}
use Rattle.layout.proofs.Asked.{fields}
use Rattle.layout.proofs.Puts.{Put, put, puts, Within, length-puts, field_puts, field-kept, head_puts}
use Rattle.layout.proofs.Shown.{cap-here, cap-none, cap-object, cap-shown, money-none, parent_is}
use Rattle.layout.proofs.Frame.{state-is, house-same, day-same, object-same, bytes_same, lock-same, cash-same, marks-same}
use Rattle.layout.proofs.Frame.{box-same, cap-same-at, money-same-at}
use Rattle.call_prune.specs.Links.{pruned_links, LivingCap}
use Rattle.call_prune.proofs.Pruning.{Pruning}
use Rattle.call_prune.proofs.Measuring.{pruned}
use Rattle.call_prune.proofs.Ending.{Ended, below, pruned-ended}
use Rattle.call_rename.specs.Runs.{renamed_words}
use Rattle.call_rename.proofs.Stops.{slot_of}

-- ---- the words: a password stored in slot k

module _ (w : List ℕ) (k : ℕ) (drawn : Password) (low : 1 ≤ k) (high : k ≤ 512) (z : length w ≡ Layout.WORDS) where
  abbrev ws : List Put
  ws = put 512 Layout.P2 k drawn.p2 ∷ put 512 Layout.P1 k drawn.p1 ∷ []

  as-puts : renamed_words w k drawn ≡ puts ws w
  unfolding renamed_words
  as-puts = refl

  in_rows : Within ws
  in_rows = omega arith

  -- what is left of each row of the words
  record Passworded (w' : List ℕ) : Type 0 where
    size : length w' ≡ Layout.WORDS
    house : get_or w' Layout.HOUSE 0 ≡ get_or w Layout.HOUSE 0
    cash : cash_of w' ≡ cash_of w
    lock1 : lock1_of w' ≡ lock1_of w
    lock2 : lock2_of w' ≡ lock2_of w
    sums : sum_of w' ≡ sum_of w
    money : money_of w' ≡ money_of w
    starts : start_of w' ≡ start_of w
    ends : end_of w' ≡ end_of w
    first-half : p1_of w' ≡ at (p1_of w) k drawn.p1
    second-half : p2_of w' ≡ at (p2_of w) k drawn.p2

  passworded : Passworded (renamed_words w k drawn)
  passworded = rw as-puts (record {
    size = length-puts ws w ∙ z;
    house = head_puts Layout.HOUSE w (omega arith) ws refl in_rows;
    cash = field-kept 64 Layout.CASH w ws refl in_rows;
    lock1 = field-kept 64 Layout.LOCK1 w ws refl in_rows;
    lock2 = field-kept 64 Layout.LOCK2 w ws refl in_rows;
    sums = field-kept 259 Layout.SUM w ws refl in_rows;
    money = field-kept 512 Layout.MONEY w ws refl in_rows;
    starts = field-kept 512 Layout.START w ws refl in_rows;
    ends = field-kept 512 Layout.END w ws refl in_rows;
    first-half = field_puts 512 Layout.P1 w (omega arith) ws refl in_rows (omega arith);
    second-half = field_puts 512 Layout.P2 w (omega arith) ws refl in_rows (omega arith);
  })

-- ---- the capabilities of the object

module _ {b l w : List ℕ} (W : WellFormed b l w) {k : ℕ} (L : LivingCap l k) (top : parent_of l k ≡ 0) (c : Call) (me : ℕ)
  where
    abbrev s : State
    s = view b l w

    abbrev C : Caps s.object s.cap
    C = W.valid.formed.caps

    abbrev l₁ : List ℕ
    l₁ = pruned_links l k

    abbrev w₁ : List ℕ
    w₁ = renamed_words w k c.drawn

    abbrev T : Pruning l k l₁ 0
    T = pruned L

    abbrev E : Ended l l₁ (below s k)
    E = pruned-ended W L

    abbrev R : Passworded w k c.drawn (slot_of L).low (slot_of L).high W.sized.words w₁
    R = passworded w k c.drawn (slot_of L).low (slot_of L).high W.sized.words

    lives-k : Lives s.cap k
    lives-k = cap-shown b l w k L.live

    top-k : (s.cap k).parent ≡ 0
    top-k = parent_is b l w k L.live ∙ top

    abbrev mine : ℕ → Bool
    mine i = eqb (s.cap i).object (s.cap k).object

    -- each of the object's descends from its master
    mine-descends : (i : ℕ) → mine i ≡ true → descends s i k ≡ true
    mine-descends i t =
        let e : (s.cap i).object ≡ (s.cap k).object = eqb-true _ _ t in
        let h : Lives s.cap i = λ z. lives-k (sym e ∙ z) in
        subst (λ x. descends s i x ≡ true) (master-unique s C i k h lives-k top-k e) (master-above s C i h)

    gone : (i : ℕ) → i ≢ k → mine i ≡ true → owner_of l₁ i ≡ 0
    unfolding below
    gone i n t = E.gone i (both_true (descends s i k) (not (eqb i k)) (mine-descends i t) (ap not (ne_eqb i k n)))

    stays : (i : ℕ) → mine i ≡ false → owner_of l₁ i ≡ owner_of l i
    unfolding below
    stays i t = by_bool (below s k i)
        (λ u. E.gone i u ∙ sym (by-eq (owner_of l i) 0 (λ z. z) (λ h.
        let d = (all2 (descends s i k) (not (eqb i k)) u).0 in
        absurd (eqb-false (s.cap i).object (s.cap k).object t
        (descends-in s C i k (cap-shown b l w i h) d).object))))
        (λ u. E.stays i u)

    owner-k : owner_of l₁ k ≡ owner_of l k
    owner-k = ⊎_elim (λ e. e) (λ e. absurd (T.live e.0)) (T.ends k)

    -- ---- in the view

    -- 02, CR 9: "A master's is 65,535."
    masters-day : last_day_of l k ≡ Limit.day
    masters-day = (((fields (plain W)).caps k L.live).whole top).2

    cap-k : (view b l₁ w₁).cap k ≡ new_master s c me k
    unfolding new_master
    cap-k = cap-here b l₁ w₁ k T.live ∙ rw (cap-here b l w k L.live) (λ x. record {
      object = (owner-k ∙ sym (cap-object b l w k)) x;
      parent = ((λ y. T.rows.parents y k) ∙ top) x;
      password = record {
        p1 = ((λ y. R.first-half y k) ∙ at_here (p1_of w) k c.drawn.p1) x;
        p2 = ((λ y. R.second-half y k) ∙ at_here (p2_of w) k c.drawn.p2) x;
      };
      window = record { start = R.starts x k; end = R.ends x k };
      rights = T.rows.rights x k;
      last_day = ((λ y. T.rows.last-days y k) ∙ masters-day) x;
    })

    cap-else : (i : ℕ) → i ≢ k → (view b l₁ w₁).cap i ≡ (emptied s c me k).cap i
    unfolding emptied
    cap-else i n = by_bool (mine i)
        (λ t. cap-none b l₁ w₁ i (gone i n t) ∙ sym (end-cap s mine i t))
        (λ t. cap-same-at b l w b l₁ w₁ i (stays i t) (λ x. T.rows.parents x i)
        ((λ x. R.first-half x i) ∙ at-else (p1_of w) k c.drawn.p1 i n)
        ((λ x. R.second-half x i) ∙ at-else (p2_of w) k c.drawn.p2 i n)
        (λ x. R.starts x i) (λ x. R.ends x i) (λ x. T.rows.rights x i)
        (λ x. T.rows.last-days x i)
        ∙ sym (stay-cap s mine i t))

    money-k : (view b l₁ w₁).money k ≡ s.money k
    money-k = money-same-at b l w b l₁ w₁ k owner-k (λ x. R.money x k)

    end-money : (i : ℕ) → mine i ≡ true → (emptied s c me k).money i ≡ 0
    unfolding emptied end_where with_money
    end-money i t = pick_yes (mine i) 0 (s.money i) t

    money-else : (i : ℕ) → i ≢ k → (view b l₁ w₁).money i ≡ (emptied s c me k).money i
    unfolding emptied
    money-else i n = by_bool (mine i)
        (λ t. money-none b l₁ w₁ i (gone i n t) ∙ sym (end-money i t))
        (λ t. money-same-at b l w b l₁ w₁ i (stays i t) (λ x. R.money x i) ∙ sym (stay-money s mine i t))

    pub renamed-view : view b (pruned_links l k) (renamed_words w k c.drawn)
        ≡ new_cap (emptied (view b l w) c me k) k (new_master (view b l w) c me k) ((view b l w).money k)
    unfolding new_cap with_money with_cap emptied end_where
    renamed-view =
        let m = T.rows.masters in
        state-is (view b l₁ w₁) (new_cap (emptied s c me k) k (new_master s c me k) (s.money k))
        (house-same b l w b l₁ w₁ R.house)
        (day-same b l w b l₁ w₁ T.rows.day)
        (object-same b l w b l₁ w₁ m refl T.rows.serials T.rows.sizes refl)
        (bytes_same b l w b l₁ w₁ m T.rows.sizes T.rows.first-blocks T.rows.next-blocks refl)
        (lock-same b l w b l₁ w₁ m refl R.lock1 R.lock2)
        (cash-same b l w b l₁ w₁ m refl R.cash)
        (marks-same b l w b l₁ w₁ m refl refl refl refl)
        (box-same b l w b l₁ w₁ m refl refl refl R.sums refl)
        (at-is (emptied s c me k).cap (view b l₁ w₁).cap k (new_master s c me k) cap-k cap-else)
        (at-is (emptied s c me k).money (view b l₁ w₁).money k (s.money k) money-k money-else)

    pub renamed-words : length (renamed_words w k c.drawn) ≡ Layout.WORDS
    renamed-words = R.size
