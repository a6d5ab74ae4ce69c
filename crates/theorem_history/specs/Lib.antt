-- Demand 3 about stores, and that a read by hook undoes a write by hook.
pub mod History
pub mod Undo
