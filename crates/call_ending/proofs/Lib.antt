-- the definitions, as the code comes to them
pub mod Walking
-- the chains and trees where an object ends
pub mod ObjectEnded
pub mod CapEnded
pub mod BlocksEnded
-- what the stores make of the rows
pub mod Rows
pub mod EndedShape
-- what the code asks
pub mod Requires
-- what the store means after it
pub mod Money
pub mod EndedView
