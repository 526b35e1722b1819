-- how the states lie in memory, and what is read there
pub mod Layout
-- where a step leads, and what it costs
pub mod Stepping
-- what it means that they are the automaton of some patterns
pub mod Meaning
-- the laws that follow
pub mod Reading
-- what the phases of a build make
pub mod Building
-- how far lists are made
pub mod Listing
-- how far links and rows are made
pub mod Linking
-- the patterns in their order
pub mod Sorting
-- and the trie while it is made
pub mod Growing
