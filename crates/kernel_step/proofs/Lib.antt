-- what the code of each call asks
pub mod Asked
-- the replies and the runs, as the code comes to them
pub mod Replying
-- the exact runs are what the rules give, and what they leave where they refuse
pub mod Choosing
pub mod Shaping
pub mod Meeting
pub mod Taking
pub mod Refusing
pub mod Promising
-- the run and the scratch's length
pub mod Theorems
