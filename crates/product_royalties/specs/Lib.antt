-- Royalties by the pick: the charge, a bill, and what every list of bills adds up to.
pub mod Charge
pub mod Bills
pub mod Theorems
pub mod Edges
