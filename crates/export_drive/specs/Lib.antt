-- What a pick by numbers promises.
pub mod Exported
