-- the loop over what was read, and the loop over the turns
pub mod Going
