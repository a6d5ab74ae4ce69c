-- the run, as the code comes to it
pub mod Asking
-- what the code asks follows from well-formedness, and the run is what the rules give
pub mod Meets
