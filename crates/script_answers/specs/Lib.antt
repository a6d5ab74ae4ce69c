pub mod Room
pub mod Pushed
pub mod Ends
pub mod Output
pub mod Example
