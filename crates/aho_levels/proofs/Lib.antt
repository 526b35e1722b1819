-- where a byte stands, one place after another
pub mod Positions
-- between which places it stands
pub mod Among
-- the shortest of some lengths
pub mod Lengths
-- links, rows and lists, from those of shorter words
pub mod Linking
-- where a byte stands, by cases
pub mod Places
-- the ranges of children
pub mod Ranges
-- states and their parents, by words
pub mod Nested
-- one link more
pub mod Joined
-- one row more
pub mod RowJoined
-- the first links and rows
pub mod Begun
-- rows
pub mod Rows
-- one list more
pub mod Listing
-- what stays where other parts change
pub mod Same
-- the patterns that end at a state
pub mod Owning
-- lists behind their lengths
pub mod Listed
-- each node has a state
pub mod Reached
-- words that are made longer by a byte
pub mod Rises
-- patterns that are added one by one
pub mod Adding
-- a state more, behind all others
pub mod Growth
-- one pattern more that ends
pub mod Ended
-- one pattern more that comes to its state, and what there is once all have come
pub mod Settling
-- the patterns at the root, before any byte
pub mod FirstLevel
-- a level: one pattern after another is led a byte further
pub mod LevelSteps
-- the patterns that end at a state
pub mod EndLists
-- the trie, once no pattern goes on
pub mod Closing
