-- Requests and replies as they cross to C: the meaning of each row of numbers.
pub mod Numbers
pub mod Crossing
pub mod Call
pub mod Window
pub mod Count
pub mod Lend
pub mod Drive
pub mod Royalties
