-- What the check of the capability trees promises.
pub mod Parts
