-- A script's lines on the store.
pub mod Plays
pub mod Starts
-- the slices that the code lends for it
pub mod Workspace
