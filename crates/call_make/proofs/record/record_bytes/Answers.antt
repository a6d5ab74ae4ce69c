-- `record_bytes` stores cell after cell.
use Rattle.call_make.specs.Runs.{record_bytes}
use mathlib.Core.Path.{refl}
use Rattle.call_make.proofs.record.record_bytes.Goals as goal

pub returns : goal.returns
unfolding record_bytes
returns c = refl
