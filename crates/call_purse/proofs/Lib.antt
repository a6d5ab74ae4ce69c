-- Laws of the climb and of the two calls, each file after those that it cites.
pub mod Climbing
pub mod Settling
pub mod Storing
pub mod Reaching
pub mod Ready
pub mod Shifting
pub mod Meeting
