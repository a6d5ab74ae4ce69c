-- the runs, as the code comes to them
pub mod Stops
-- what stores to the cells of a process mean
pub mod Targets
pub mod Marked
pub mod Amounts
-- what the code asks follows from well-formedness
pub mod Requires
-- each run is what the rules give
pub mod Meets
