-- What a write and a read by hook, by numbers, promise.
pub mod Exported
