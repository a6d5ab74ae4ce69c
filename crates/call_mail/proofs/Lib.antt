-- cells copied, and the loops that copy them
pub mod Copying
-- messages in their places
pub mod Boxes
-- the runs, as the code comes to them
pub mod Stops
pub mod Receiving
-- what the stores to a box mean
pub mod Boxed
pub mod Sent
pub mod Received
-- what the code asks follows from well-formedness, and each run is what the rules give
pub mod Meets
