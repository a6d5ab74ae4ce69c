-- `instead` by its test.
use Rattle.call_ending.proofs.Walking.{instead-yes, instead-not}
use Rattle.call_ending.proofs.blocks.instead.Goals as goal

pub returns-then-x-y : goal.returns-then-x-y
returns-then-x-y c = instead-yes _ c.if-x-y.true

pub returns-else-x-y : goal.returns-else-x-y
returns-else-x-y c = instead-not _ c.if-x-y.false
