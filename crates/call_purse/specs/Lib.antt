-- What withdraw and deposit make of the slices, exactly.
pub mod Climb
pub mod Calls
