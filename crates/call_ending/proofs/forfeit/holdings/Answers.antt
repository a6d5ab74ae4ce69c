-- `holdings` tests the flag, and adds the cash to the sums in the box.
use Rattle.std.proofs.Common.{arith}
use Rattle.call_ending.proofs.Walking.{holds-none, holds-some, count_low, holds-fit}
use Rattle.call_ending.proofs.forfeit.holdings.Goals as goal

pub returns-then-bytes-o-eq0 : goal.returns-then-bytes-o-eq0
returns-then-bytes-o-eq0 c = holds-none _ _ c.requires.slot c.if-bytes-o-eq0.true

pub sums_from-sums-requires : goal.sums_from-sums-requires
sums_from-sums-requires c =
    let few = count_low c.requires c.if-bytes-o-eq0.false in
    (c.requires.words, omega (arith, few, c.from.ensures), omega (arith, c.requires.slot.high))

pub overflow_cast-result : goal.overflow_cast-result
overflow_cast-result c =
    omega (arith, holds-fit c.requires c.if-bytes-o-eq0.false c.from.ensures c.sums_from-sums.ensures.is)

pub overflow_add-result-2 : goal.overflow_add-result-2
overflow_add-result-2 c =
    omega (arith, holds-fit c.requires c.if-bytes-o-eq0.false c.from.ensures c.sums_from-sums.ensures.is)

pub returns : goal.returns
returns c = holds-some _ _ c.requires.slot c.if-bytes-o-eq0.false c.from.ensures c.sums_from-sums.ensures.is
