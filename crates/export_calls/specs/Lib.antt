-- What a call by numbers promises.
pub mod Exported
