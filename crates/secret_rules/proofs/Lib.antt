-- what a compiled expression matches
pub mod Compiled
-- what searches find by expressions that match alike
pub mod Alike
-- the groups of a match
pub mod Groups
-- walks over the matches of a line
pub mod Matching
-- members of lists, as a walk comes along them
pub mod Membership
-- where a text stands behind a place of a line
pub mod Behind
-- which rule each keyword is of
pub mod Owners
-- places of readers
pub mod Placed
-- rules with which nothing is wrong
pub mod Soundness
-- where rules apply
pub mod Applying
-- the turns of rules at a line, one after another
pub mod Turns
-- marks as members of a list
pub mod Marked
-- matches that go on from line to line
pub mod Onward
-- texts and tables of an array, one after another
pub mod Texts
-- members of lists, by their places
pub mod Members
-- occurrences that are joined to runs
pub mod Joined
-- occurrences that stand for all that count
pub mod Picked
-- the lines of a text, as they come, with their runs
pub mod LineRuns
-- what was written of a line
pub mod WrittenLines
-- what rules mark of a line lies in it
pub mod Lying
-- what stands for all that is covered of a line
pub mod Covered
-- lines that come to their ends, some after others
pub mod Advancing
-- how far the cover of a stream has come
pub mod Streaming
-- bytes of a text that are taken in
pub mod Taking
-- a line that comes to its end
pub mod Ending
-- the bytes of a line as they are read
pub mod Reading
-- what is said of one setting is said of the same
pub mod Same
-- the bytes of a line as they are read for a visitor
pub mod Keeping
-- what a visitor is to take of a line
pub mod Seen
-- lines that come to their ends and are visited
pub mod TakenLines
-- how far the visits of a stream's lines have come
pub mod Visited
