pub mod Walk
pub mod Taking
