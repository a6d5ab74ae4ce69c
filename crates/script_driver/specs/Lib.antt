-- what lines are played on
pub mod Machine
-- where a script stands, a window of input with room for output, the end of the input, and every list of turns
pub mod Turns
-- three slices as what lines are played on
pub mod Stores
-- what the code promises, and a program that reads, feeds and writes
pub mod Contract
-- what its parts promise
pub mod Parts
