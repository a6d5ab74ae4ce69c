-- The list of a question, what is compared of an entry, the search for the first place, and the answers in order.
pub mod Listing
pub mod Comparing
pub mod Searching
pub mod Asking
pub mod Edges
