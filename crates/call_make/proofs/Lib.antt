-- the code comes to the run
pub mod Rows
pub mod Stops
pub mod Placing
-- the shape with the object made
pub mod Chained
pub mod Rooted
pub mod Shapes
-- what the slices mean
pub mod Ranged
pub mod Showing
-- the run is what the rules give
pub mod Meets
