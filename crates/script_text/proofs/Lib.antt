-- the digits of a number
pub mod Numerals
pub mod Decimals
-- scans of a line and what it says
pub mod Scanning
pub mod Reading
-- what is written
pub mod Pasting
pub mod Spelling
-- lines in a part
pub mod Windows
-- a line says one thing
pub mod Sayings
-- the steps of the code
pub mod Steps
