-- Entering a call, exactly, and what is known where its own part begins.
pub mod Entry
pub mod Enters
pub mod Begins
