-- `drop_leaf` stores what `dropped_links` says.
use Prim.Native.Nat.{◌+◌}
use Rattle.layout.specs.Layout as Layout
use mathlib.Core.Path.{refl, ap, ◌∙◌}
use native.Mathlib.Omega.{arith}
use lib.ListN.{length, get_or, length-set}
use Rattle.call_prune.proofs.Stores.{Read, read-high, cell-high, dropped-length, dropped-is}
use Rattle.call_prune.proofs.leaf.drop_leaf.Goals as goal
use Rattle.call_prune.proofs.leaf.drop_leaf.Goals.{After-from}

read : (c : After-from) → Read c.requires c.from-p.result c.from.result (get_or c.args.links.now (Layout.NEXT_CAP + c.args.j) 0)
read c = record {
  parent-read = c.from-p.ensures;
  prev-read = c.from.ensures;
  next-read = refl;
}

pub named_at-requires : goal.named_at-requires
named_at-requires c =
    let h = read-high c.requires (read c) in record {
      parent = h.0;
      sibling = h.1;
    }

pub offset_bounds-links-named_at : goal.offset_bounds-links-named_at
offset_bounds-links-named_at c =
    record { fits = omega (arith, cell-high c.requires (read (goal.at.offset_bounds-links-named_at c).After-from) _ c.named_at.ensures) }

pub bounds-links-named_at : goal.bounds-links-named_at
bounds-links-named_at c =
    omega (arith, c.requires.links, cell-high c.requires (read (goal.at.bounds-links-named_at c).After-from) _ c.named_at.ensures)

pub overflow_add-links : goal.overflow_add-links
overflow_add-links c =
    let h = read-high c.requires (read (goal.at.overflow_add-links c).After-from) in
    record { fits = omega (arith, h.2, c.from-2.ensures) }

pub offset_bounds-links-from : goal.offset_bounds-links-from
offset_bounds-links-from c =
    let h = read-high c.requires (read (goal.at.offset_bounds-links-from c).After-from) in
    record { fits = omega (arith, h.2, c.from-2.ensures) }

pub bounds-links-from : goal.bounds-links-from
bounds-links-from c =
    let h = read-high c.requires (read (goal.at.bounds-links-from c).After-from) in
    simp length-set (omega (arith, h.2, c.from-2.ensures, c.requires.links))

pub returns : goal.returns
returns c =
    c.free_cap.ensures ∙ dropped-is c.requires (record {
      parent-read = (read (goal.at.returns c).After-from).parent-read;
      prev-read = (read (goal.at.returns c).After-from).prev-read;
      next-read = c.from-2.ensures;
    }) _ c.named_at.ensures

pub shape_of-links : goal.shape_of-links
shape_of-links c = ap length (returns c) ∙ dropped-length _ _
