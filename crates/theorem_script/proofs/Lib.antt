-- turns, one after another
pub mod Running
-- a turn is a function of what comes in
pub mod Fixing
-- from one machine to another: three slices follow the rules, and what they do is exact
pub mod Following
pub mod Standing
-- which free slots are taken makes no difference to what a script writes
pub mod Taking
-- what a script writes by the rules is its output
pub mod Writing
-- every script writes a text
pub mod Existing
-- every answer of the rules is some reply's
pub mod Replying
-- what a script does is a run of `call`
pub mod Calling
-- a program by the contracts
pub mod Keeping
-- the theorems
pub mod Theorems
