-- a line is played as the rules say
pub mod Playing
-- the slices that are lent for it
pub mod Lending
