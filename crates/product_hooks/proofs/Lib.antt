-- Turning, and what a call by hook comes to.
-- bits, and three exchanges of bit blocks
pub mod Bits
pub mod Exchange
pub mod Across
-- bytes, tiles, lists of tiles
pub mod Byte
pub mod Tiles
pub mod Turning
-- a tile in a word
pub mod Loading
-- the functions
pub mod Hooking
pub mod Examples
