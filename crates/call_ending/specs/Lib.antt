-- The end of an object, in words and in links.
pub mod Forfeit
pub mod Links
pub mod Ended
