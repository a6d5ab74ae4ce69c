-- Theorems about the rules, each file after those that it cites.
pub mod Examples
-- the ground
pub mod Tests
pub mod Bitwise
pub mod Slots
pub mod Climbs
pub mod Forest
-- the parts of a store, the ledger's lines, and the invariant that ties them
pub mod Sound
pub mod Masters
pub mod Lines
pub mod Link
-- the three generic edits
pub mod Ending
pub mod Adding
pub mod Placing
-- what is known where a call is done
pub mod Presenting
pub mod Ready
pub mod Outcomes
-- the calls
pub mod Parts
pub mod Keeping
pub mod Purse
pub mod Locking
pub mod Deriving
pub mod Making
pub mod Deleting
pub mod Renaming
pub mod Answers
pub mod Bytes
pub mod Done
pub mod Steps
pub mod Day
pub mod Undoing
-- lists of calls
pub mod Fresh
pub mod Claims
pub mod Ended
pub mod Choices
pub mod Runs
pub mod Awake
pub mod Asking
pub mod Lending
-- passwords that open
pub mod Below
pub mod Unlocking
pub mod Counting
pub mod Theorems
pub mod Played
-- which free slots are taken is not seen: slots one to one, two states that differ in their slots alone, the calls on them
pub mod Carried
pub mod Onto
pub mod Moving
pub mod Changing
pub mod Meaning
pub mod Meant
pub mod Refusing
pub mod Doing
pub mod Blind
pub mod Taken
