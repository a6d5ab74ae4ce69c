-- The sums that make the money total, each with a bound that lets the next be added: no amount is above 4,294,967,295.
use Rattle.std.specs.Prelude.{ℕ, ◌*◌, true, false, List, eqb}
use Rattle.rules.specs.Limit as Limit
use Rattle.rules.specs.Store.{State, sums_in, all_cash, all_masters, all_boxes}
use Rattle.layout.specs.View.{view}
use Rattle.layout.specs.Sums.{Amount}

abbrev pub CashIs : List ℕ → List ℕ → List ℕ → ℕ → Type 0
CashIs b l w = Amount (Limit.word * Limit.objects) (all_cash (view b l w))

-- an amount that counts for a master only
unfoldable pub of_master : ℕ → ℕ → ℕ
of_master parent amount = elim (eqb parent 0) [ true ↦ amount | false ↦ 0 ]

-- what capability i adds to the total
abbrev pub master_money : State → ℕ → ℕ
master_money s i = of_master (s.cap i).parent (s.money i)

abbrev pub MastersAre : List ℕ → List ℕ → List ℕ → ℕ → Type 0
MastersAre b l w = Amount (Limit.word * Limit.caps) (all_masters (view b l w))

-- the sums in the box of object o; its count is a byte
abbrev pub BoxIs : List ℕ → List ℕ → List ℕ → ℕ → ℕ → Type 0
BoxIs b l w o = Amount (Limit.word * 255) (sums_in ((view b l w).box o))

abbrev pub BoxesAre : List ℕ → List ℕ → List ℕ → ℕ → Type 0
BoxesAre b l w = Amount (Limit.word * 255 * Limit.objects) (all_boxes (view b l w))
