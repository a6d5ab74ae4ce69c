-- The charge, a bill, and lists of bills.
pub mod Tiers
pub mod Charging
pub mod Billing
pub mod Adding
pub mod Theorems
pub mod Examples
