-- Entering: the code's ends, and what is known where the own part begins.
pub mod Entering
pub mod Beginning
-- the whole call, for any own part: by its outcomes, and what the rules give
pub mod Stepping
pub mod Meeting
