pub mod FirstStates
pub mod Settings
pub mod StateNames
pub mod Sizes
pub mod Trie
pub mod TrieGrowth
pub mod Dense
pub mod Refusals
pub mod Items
pub mod Prefilters
pub mod Starts
pub mod FailureLinks
pub mod Built
pub mod Walking
pub mod ListLinks
-- the numbers that states keep
pub mod Shuffled
pub mod Automaton
-- what the phases of a build make
pub mod Made
