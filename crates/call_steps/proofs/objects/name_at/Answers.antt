-- `name_at` reads the volume and the serial.
use Rattle.call_steps.proofs.Callers.{name-is}
use Rattle.call_steps.proofs.objects.name_at.Goals as goal

pub returns : goal.returns
returns c w =
    let a = c.args in
    name-is a.bytes.now a.links.now w a.o c.requires.fact_2 c.requires.fact_3 _ c.from.ensures c.from-2.ensures
