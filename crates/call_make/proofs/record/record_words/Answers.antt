-- `record_words` stores cell after cell.
use Rattle.call_make.specs.Runs.{record_words}
use mathlib.Core.Path.{refl}
use Rattle.call_make.proofs.record.record_words.Goals as goal

pub returns : goal.returns
unfolding record_words
returns c = refl
