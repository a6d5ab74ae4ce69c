-- The refusals of the window question, in order.
pub mod Asking
