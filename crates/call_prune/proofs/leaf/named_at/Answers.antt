-- `named_at` is the cell by its test.
use mathlib.Core.Path.{sym}
use Rattle.call_prune.proofs.Stores.{named-first, named-next}
use Rattle.call_prune.proofs.leaf.named_at.Goals as goal

pub returns-then-q-eq0 : goal.returns-then-q-eq0
returns-then-q-eq0 c = sym (named-first _ _ c.if-q-eq0.true)

pub returns-else-q-eq0 : goal.returns-else-q-eq0
returns-else-q-eq0 c = sym (named-next _ _ c.if-q-eq0.false)
