-- `make_room` writes the buffer out where it has less room.
use mathlib.Core.Path.{refl}
use mathlib.Core.List.{[]}
use Rattle.hall.proofs.Going.{room-made}
use Rattle.hall.proofs.make_room.Goals as goal

pub returns-then-run-out : goal.returns-then-run-out
returns-then-run-out c = record { room = c.if-run-out.true; run = refl; written = []; kept = refl }

pub returns : goal.returns
returns c = room-made _ c.requires refl refl
