-- Laws of the steps, and the proofs of the functions.
pub mod Finding
pub mod Fitting
pub mod Callers
pub mod Process
pub mod Holding
pub mod Admitting
pub mod Sharing
pub mod Paying
pub mod Entering
pub mod Charging
pub mod Marking
pub mod Meeting
pub mod Replying
-- cells copied
pub mod Laid
pub mod Copying
