-- `check` asks for the lengths, the shape of the links and the fields; by the laws of the layout these are all there is.
use Rattle.std.proofs.Common.{arith, rules}
use Rattle.layout.proofs.Formed.{formed}
use Rattle.layout.proofs.Plain.{plain}
use Rattle.layout.proofs.Asked.{fields}
use Rattle.layout.proofs.Deciding.{no-it, as-well, refuted}
use Rattle.kernel_check.proofs.check.Goals as goal

pub returns-then-bytes-ne-BYTES : goal.returns-then-bytes-ne-BYTES
returns-then-bytes-ne-BYTES c = no-it (λ f. omega (arith, c.then-bytes-ne-BYTES.either, f.sized.bytes, f.sized.links, f.sized.words))

pub returns-then-check_shape : goal.returns-then-check_shape
returns-then-check_shape c =
    as-well c.check_fields.ensures
    (formed (record {
      bytes = λ i. omega (arith, c.type_inv.bytes i);
      links = λ i. omega (arith, c.type_inv.links i);
      words = λ i. omega (arith, c.type_inv.words i);
    }) (search rules) (c.check_shape.ensures.sound c.if-check_shape.true))
    (λ f. fields (plain f))

pub returns-else-check_shape : goal.returns-else-check_shape
returns-else-check_shape c =
    rw c.if-check_shape.false (no-it (λ f. refuted c.check_shape.ensures c.if-check_shape.false f.shape))
