-- What the code asks follows from what is known of the object and its last capability.
use Prim.Native.Nat.{ℕ, ◌+◌, ◌≤◌}
use mathlib.Core.List.{List}
use lib.ListN.{get_or}
use Rattle.layout.specs.Layout as Layout
use Rattle.layout.specs.Rows.{flag_of, master_of}
use Rattle.layout.proofs.Shown.{process-yes}
use Rattle.call_ending.specs.Forfeit.{forfeited}
use Rattle.call_ending.specs.Ended.{EndAsks, Last}
use Rattle.call_ending.proofs.EndedShape.{alive, object-slot, cap-slot, blocks-ask}

pub end-asks : {b l w : List ℕ} {o m : ℕ} → Last b l w o m → get_or w Layout.HOUSE 0 + forfeited b w o m ≤ 4294967295
    → EndAsks b l w o m
end-asks {b} {l} {w} {o} L fits = record {
  words = record {
    bytes = L.sized.bytes;
    words = L.sized.words;
    slot = object-slot L;
    cap = cap-slot L;
    count = λ f. L.cells.count o (process-yes (master_of l) (flag_of b) o (alive L) f);
    fits = fits;
  };
  blocks = blocks-ask L;
}
