-- the loop over the lines of a window, the loop over the turns, and the output buffer
pub mod Going
pub mod Keeping
