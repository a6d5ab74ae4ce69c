-- What functions over rows of slots ask for and answer.
pub mod Distinct
pub mod Buckets
