-- `renew` ends all below k, stores the password and clears the scratch.
use mathlib.Core.Path.{refl}
use native.Mathlib.Omega.{arith}
use lib.ListN.{length-set}
use Rattle.call_rename.specs.Runs.{renamed_words}
use Rattle.call_rename.proofs.Stops.{cap_high}
use Rattle.call_rename.proofs.renew.Goals as goal

pub bounds-words-k-2 : goal.bounds-words-k-2
bounds-words-k-2 c = simp length-set (omega (arith, cap_high c.requires.living, c.requires.words))

pub returns : goal.returns
unfolding renamed_words
returns c = record { links = c.prune_below.ensures; words = refl; cleared = c.clear.ensures }
