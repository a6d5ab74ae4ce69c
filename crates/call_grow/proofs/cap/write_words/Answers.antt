-- `write_words` writes the record's words.
use mathlib.Core.Path.{refl}
use Rattle.call_grow.specs.Made.{new_words}
use Rattle.call_grow.proofs.cap.write_words.Goals as goal

pub returns : goal.returns
unfolding new_words
returns c = refl
