-- stores, and blocks
pub mod Copying
-- an object's bytes by their cells
pub mod Places
pub mod Apart
-- the runs, as the code comes to them
pub mod Stops
pub mod Reading
pub mod Writing
-- what a write's stores mean
pub mod Stored
-- what the code asks follows from well-formedness
pub mod Requires
-- each run is what the rules give
pub mod Meets
