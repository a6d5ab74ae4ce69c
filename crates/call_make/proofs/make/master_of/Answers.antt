-- `master_of` is the record of its fields.
use mathlib.Core.Path.{refl}
use Rattle.call_make.specs.Runs.{master_cap}
use Rattle.call_make.proofs.make.master_of.Goals as goal

pub returns : goal.returns
unfolding master_cap
returns c = record { cap = refl; next = refl }
