-- A capability record made is the rules' new capability: the view has it in its slot, and all else as it was.
use Prim.Native.Nat.{ℕ, ◌≤◌}
use mathlib.Core.Path.{◌≡◌, refl, sym, ◌∙◌}
use mathlib.Core.Logic.{◌≢◌}
use mathlib.Core.List.{List}
use lib.ListN.{length}
use Rattle.rules.specs.Slots.{at}
use Rattle.rules.specs.Store.{Cap}
use Rattle.rules.specs.Update.{with_cap, with_money}
use Rattle.rules.specs.Changes.{new_cap}
use Rattle.layout.specs.Layout as Layout
use Rattle.layout.specs.Rows.{owner_of}
use Rattle.layout.specs.View.{view}
use Rattle.layout.proofs.Field.{at-is}
use Rattle.layout.proofs.Shown.{cap-here, money-here}
use Rattle.layout.proofs.Frame.{state-is, house-same, day-same, object-same, bytes_same, lock-same, cash-same, marks-same}
use Rattle.layout.proofs.Frame.{box-same, cap-same-at, money-same-at}
use Rattle.call_grow.specs.Made.{new_links, new_words}
use Rattle.call_grow.proofs.Making.{MadeLinks, made-links, MadeWords, made-words}

module _ (b : List ℕ) {l w l' w' : List ℕ} {i : ℕ} {x : Cap} {next moneyword : ℕ} (some : x.object ≢ 0)
    (L : MadeLinks l l' i x next) (W : MadeWords w w' i x moneyword) where
  lives : owner_of l' i ≢ 0
  lives e = some (sym L.owner-is.here ∙ e)

  cap-made : (view b l' w').cap ≡ at (view b l w).cap i x
  cap-made = at-is (view b l w).cap (view b l' w').cap i x
      (cap-here b l' w' i lives
      ∙ rw (
        L.owner-is.here,
        L.parent_is.here,
        W.p1-is.here,
        W.p2-is.here,
        W.start_is.here,
        W.end_is.here,
        L.rights-is.here,
        L.last-day-is.here,
      ))
      (λ j ne. cap-same-at b l w b l' w' j (L.owner-is.else j ne) (L.parent_is.else j ne) (W.p1-is.else j ne)
      (W.p2-is.else j ne) (W.start_is.else j ne) (W.end_is.else j ne) (L.rights-is.else j ne)
      (L.last-day-is.else j ne))

  money-made : (view b l' w').money ≡ at (view b l w).money i moneyword
  money-made = at-is (view b l w).money (view b l' w').money i moneyword
      (money-here b l' w' i lives ∙ W.money-is.here)
      (λ j ne. money-same-at b l w b l' w' j (L.owner-is.else j ne) (W.money-is.else j ne))

  pub made-shows : view b l' w' ≡ new_cap (view b l w) i x moneyword
  unfolding new_cap with_cap with_money
  made-shows = state-is (view b l' w') (new_cap (view b l w) i x moneyword)
      (house-same b l w b l' w' W.house-same)
      (day-same b l w b l' w' L.day-same)
      (object-same b l w b l' w' L.master-same refl L.serial-same L.size_same refl)
      (bytes_same b l w b l' w' L.master-same L.size_same L.first-block-same L.next-block-same refl)
      (lock-same b l w b l' w' L.master-same refl W.lock1-same W.lock2-same)
      (cash-same b l w b l' w' L.master-same refl W.cash-same)
      (marks-same b l w b l' w' L.master-same refl refl refl refl)
      (box-same b l w b l' w' L.master-same refl refl refl W.sum_same refl)
      cap-made
      money-made

pub new-shows : (b l w : List ℕ) (i : ℕ) (x : Cap) (next moneyword : ℕ) → length l ≡ Layout.LINKS
    → length w ≡ Layout.WORDS → 1 ≤ i → i ≤ 512 → x.object ≢ 0
    → view b (new_links l i x next) (new_words w i x moneyword) ≡ new_cap (view b l w) i x moneyword
new-shows b l w i x next moneyword ll lw low high some = made-shows b some
    (made-links l i x next ll low high) (made-words w i x moneyword lw low high)
