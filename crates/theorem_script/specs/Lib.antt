-- 01's rules as what a script's lines are played on
pub mod Rules
-- the calls that a script's lines make
pub mod Events
-- what is proved
pub mod Theorems
