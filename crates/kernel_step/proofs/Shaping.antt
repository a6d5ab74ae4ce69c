-- Links that a call leaves alone keep their shape: so the calls that write no link, whose laws say nothing of trees,
-- meet the rules on a well-formed store.
use Prim.Native.Nat.{ℕ}
use mathlib.Core.Path.{sym, subst}
use mathlib.Core.List.{List}
use Rattle.rules.specs.Store.{State}
use Rattle.rules.specs.Rights.{Op}
use Rattle.rules.specs.Call.{Call}
use Rattle.layout.specs.Shape.{Shape}
use Rattle.call_steps.specs.Run.{Ran, Meets, MeetsPlain}

pub shape-kept : {l : List ℕ} {s : State} {c : Call} {me k : ℕ} {o : Op} {x : Ran} → Shape l
    → MeetsPlain l s c me k o x → Meets s c me k o x
shape-kept shape m = record {
  choice = m.choice;
  free = m.free;
  rules = m.rules;
  sized = m.sized;
  cells = m.cells;
  links = subst Shape (sym m.links) shape;
}
