-- the stores and turns, as the code comes to them
pub mod Stores
pub mod Clearing
-- a leaf taken out of its tree
pub mod Around
pub mod Removing
-- the links once a leaf has ended
pub mod Dropping
pub mod Shapes
-- the turns that end all below a capability
pub mod Pruning
pub mod Measuring
-- the same in the view
pub mod Ending
pub mod Formed
pub mod Deleting
