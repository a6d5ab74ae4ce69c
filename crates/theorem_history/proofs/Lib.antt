-- Demand 3 about stores, and that a read by hook undoes a write by hook.
pub mod Events
pub mod Following
pub mod Undoing
