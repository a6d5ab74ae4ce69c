-- What a bill by numbers promises.
pub mod Exported
