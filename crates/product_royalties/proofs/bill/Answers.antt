-- `bill` is refused by 18, or makes the withdraw and goes by its reply.
use Prim.Native.Nat.{◌+◌, ◌≤◌}
use native.Mathlib.Omega.{arith}
use Rattle.product_royalties.specs.Charge.{max_count}
use Rattle.product_royalties.proofs.Billing.{bill-passes, bill-withdraws}
use Rattle.product_royalties.proofs.bill.Goals as goal
use Rattle.product_royalties.proofs.bill.Goals.{Else-picks-count}

within : (c : Else-picks-count) → c.args.count + c.args.picks ≤ max_count
within c = omega (arith, c.if-picks-count.false)

pub returns-then-picks-count : goal.returns-then-picks-count
returns-then-picks-count c =
    let a = c.args in
    bill-passes a.caller a.x _ (omega (arith, c.if-picks-count.true)) c.refused.ensures

pub bill_for-sum-requires : goal.bill_for-sum-requires
bill_for-sum-requires c = within c

pub returns : goal.returns
returns c =
    let a = c.args in
    bill-withdraws a.caller a.x (within (goal.at.returns c).Else-picks-count) c.bill_for-sum.ensures c.withdraw-req.ensures c.call-r.ensures
    c.call-r.auto.buffer c.call-r.auto.scratch c.by.ensures
