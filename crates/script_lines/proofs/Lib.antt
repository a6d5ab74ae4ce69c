-- the table
pub mod Rows
-- a line that may lack its last day, or that and its limit
pub mod Lacking
-- a line as a call
pub mod Calls
-- numbers that are bytes
pub mod Bytes
-- bytes copied
pub mod Gathering
