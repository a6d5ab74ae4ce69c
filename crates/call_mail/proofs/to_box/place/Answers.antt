-- `place` stores the text, the length and the sum.
use Rattle.call_mail.proofs.Stops.{placed-is}
use Rattle.call_mail.proofs.to_box.place.Goals as goal

pub returns : goal.returns
returns c = placed-is c.copy.ensures _ _
