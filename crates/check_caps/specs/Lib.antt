-- What the check of the fields of a capability says of its answers.
pub mod Parts
