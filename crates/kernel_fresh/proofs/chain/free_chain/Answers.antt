-- `free_chain` meets its contract. What is still to be stored, after what is stored, is the whole chain.
use Prim.Native.Nat.{ℕ, zero, suc, ◌+◌, ◌-◌, ◌<◌}
use mathlib.Core.Path.{◌≡◌, sym, ◌∙◌}
use mathlib.Core.List.{List}
use native.Mathlib.Omega.{arith}
use lib.ListN.{set}
use Rattle.kernel_fresh.specs.Stores.{chain, free_chain}
use Rattle.kernel_fresh.proofs.chain.free_chain.Goals as goal

-- a turn stores one link, into the cell k
turn : (off i k : ℕ) (l : List ℕ) → 0 < i → off + i ≡ k → chain off i l ≡ chain off (i - 1) (set l k (i - 1))
unfolding chain
turn off zero k l low e = absurd (omega arith)
turn off (suc i) k l low e = let same : suc i - 1 ≡ i = omega arith in rw (← e, same)

pub loop-i-preserved : goal.loop-i-preserved
loop-i-preserved c =
    let l = c.loop-i in
    l.invariant ∙ turn c.args.off l.i _ l.links c.loop-i-test.true (omega arith)

pub returns : goal.returns
unfolding chain free_chain
returns c =
    let none : c.loop-i.i ≡ 0 = omega arith in
    sym (rw none at c.loop-i.invariant)
