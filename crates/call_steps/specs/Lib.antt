-- What all calls share.
pub mod Request
pub mod Numbers
pub mod Run
-- the steps of every call
pub mod Refuses
pub mod Replies
pub mod Tests
pub mod Admits
pub mod Paying
-- what is copied
pub mod Copies
