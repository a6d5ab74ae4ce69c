-- What a capability record made does to each row, and to the view.
pub mod Making
pub mod Showing
