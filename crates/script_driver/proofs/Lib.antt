-- what is held of a line
pub mod Cutting
-- the laws of a loop over the lines of a window
pub mod Looping
-- every line has numbers
pub mod Having
-- from the contracts of the lines to the model
pub mod Bridging
-- the facts that the code's proofs cite
pub mod Linking
-- how far a turn comes
pub mod Going
-- the store before line one
pub mod Opening
