-- `put_byte` stores one byte.
use Rattle.script_text.proofs.Pasting.{wrote-byte}
use Rattle.script_text.proofs.write.put_byte.Goals as goal

pub returns : goal.returns
returns c = wrote-byte _ _ _ c.requires
