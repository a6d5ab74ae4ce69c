-- the run, as the code comes to it
pub mod Stops
-- what its stores mean
pub mod Renamed
-- the run is what the rules give
pub mod Meets
