-- `child_of` reads the parent's record.
use mathlib.Core.Path.{sym, ap, ◌∙◌}
use Rattle.rules.specs.Calls.{moved}
use Rattle.values.specs.Words.{password_of, window_of}
use Rattle.layout.specs.Layout as Layout
use Rattle.layout.proofs.Field.{row}
use Rattle.call_derive.proofs.Stops.{child-cells}
use Rattle.call_derive.proofs.child.child_of.Goals as goal

pub returns : goal.returns
returns c =
    let a = c.args in
    let at = c.requires.slot in
    record {
      cap = child-cells a.links.now a.words.now a.k a.req.rights (window_of a.req.range) (password_of a.req.drawn)
          a.req.last_day at _ _ _ (c.moved.ensures ∙ ap (moved (window_of a.req.range)) c.window_at-window.ensures)
          c.both.ensures c.min.ensures;
      next = sym (row Layout.FIRST_CHILD a.links.now a.k at);
    }
