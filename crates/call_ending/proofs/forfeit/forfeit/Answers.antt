-- `forfeit` adds the moneyword to the holdings.
use native.Mathlib.Omega.{arith}
use Rattle.call_ending.proofs.Walking.{forfeit-is, holds-ask}
use Rattle.call_ending.proofs.forfeit.forfeit.Goals as goal

pub holdings-held-requires : goal.holdings-held-requires
holdings-held-requires c = holds-ask c.requires

pub overflow_add-result : goal.overflow_add-result
overflow_add-result c =
    let a = c.requires in
    omega (arith, forfeit-is a c.holdings-held.ensures, a.fits)

pub returns : goal.returns
returns c = forfeit-is c.requires c.holdings-held.ensures
