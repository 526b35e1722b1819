-- streams that have the same matches, and replacements that write the same
pub mod Alike
-- of which patterns a searcher by a walk backward is
pub mod Backward
-- what a build makes, and why it fails
pub mod Building
-- the iterator over the runs of a cover
pub mod CoverIters
-- what covers give and leave
pub mod Covers
-- the automaton that searches, of one of several kinds
pub mod Engine
-- how small patterns have to be so that the limits refuse nothing
pub mod Fitting
-- what a search answers that may be refused
pub mod Found
-- what a replacement in memory gives and writes
pub mod InMemory
-- the definitions that a caller's contract names, from one place
pub mod Rules
-- what a searcher is seen as, and which patterns it was built from
pub mod Searcher
-- a search of a stream that has not begun, and the iterator over its matches
pub mod StreamIters
-- what is found in a stream, and what its replacement writes
pub mod Streams
