-- The code's runs by what it found in the cells.
pub mod Stops
-- the tree with a record more
pub mod Grafting
pub mod Linked
pub mod Shapes
-- the rules
pub mod Meets
