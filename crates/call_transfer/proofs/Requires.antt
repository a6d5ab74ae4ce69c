-- What the code asks is so in a well-formed store, whatever the links of its trees: the object's blocks are there, and a
-- window ends within its object.
use Prim.Native.Nat.{ℕ, ◌-◌, ◌≤◌}
use mathlib.Core.Path.{◌≡◌, ap, ◌∙◌}
use mathlib.Core.Logic.{◌≢◌}
use mathlib.Core.List.{List}
use native.Mathlib.Omega.{arith}
use lib.ListN.{length}
use Rattle.rules.specs.Store.{Object, Cap, State}
use Rattle.rules.proofs.Keeping.{end-size}
use Rattle.layout.specs.Rows as Rows
use Rattle.layout.specs.Rows.{size_of, owner_of, end_of}
use Rattle.layout.specs.View.{view}
use Rattle.layout.specs.WellFormed.{Plain}
use Rattle.layout.proofs.Shown.{object-here, cap-object, cap-here, cap-shown}
use Rattle.layout.proofs.Asked.{fields}
use Rattle.call_steps.specs.Run.{Held}
use Rattle.call_steps.proofs.Holding as Holding
use Rattle.call_transfer.specs.Runs.{BlocksHold, ReadAsks, WriteAsks}
use Rattle.call_transfer.proofs.Apart.{chain-is, chain-long}

module _ {b l w : List ℕ} {k : ℕ} (f : Plain b l w) (h : Held l k) where
  end-here : Rows.master_of l (owner_of l k) ≢ 0 → end_of w k ≤ size_of l (owner_of l k)
  end-here alive =
      let s : State = view b l w in
      let end : (s.cap k).window.end ≡ end_of w k = ap (λ (x : Cap). x.window.end) (cap-here b l w k h.live) in
      let size : (s.object (s.cap k).object).size ≡ size_of l (owner_of l k) =
      ap (λ o. (s.object o).size) (cap-object b l w k)
      ∙ ap (λ (x : Object). x.size) (object-here b l w (owner_of l k) alive) in
      omega (arith, end-size s f.valid.formed k (cap-shown b l w k h.live), end, size)

  pub target-of : BlocksHold l w k
  target-of =
      let T = Holding.target-of f h in
      let o : ℕ = owner_of l k in
      record {
        owned = T;
        chain = (f.blocks.chain o, chain-is l f.blocks o T.live, chain-long l f.blocks o T.live);
        fits = end-here T.live;
        size = ((fields f).objects o T.live).size;
      }

  pub read-asks : {start end : ℕ} (buffer : List ℕ) → start ≤ end → end - start ≤ 256 → 256 ≤ length buffer
      → ReadAsks b l w buffer k start end
  read-asks buffer o s r = record {
    sized = f.sized;
    target = target-of;
    ordered = o;
    short = omega arith;
    room = r;
  }

  pub write-asks : {start end : ℕ} (text : List ℕ) → start ≤ end → length text ≡ end - start
      → WriteAsks b l w text k start end
  write-asks text o e = record { sized = f.sized; target = target-of; ordered = o; long = e }
