-- Laws of loops over rows of slots, that the checks of fields share.
pub mod Counting
pub mod Unique
pub mod Chaining
