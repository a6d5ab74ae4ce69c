-- What the check of the money total says of its answers.
pub mod Amount
