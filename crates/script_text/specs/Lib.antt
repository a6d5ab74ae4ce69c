pub mod Numeral
pub mod Lines
pub mod Scan
pub mod Pasted
