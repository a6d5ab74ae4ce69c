-- What the pass over the capabilities says of its answers.
pub mod Scanned
pub mod Slots
