-- what a search of a stream has, before it begins and once it has a source
pub mod Begun
-- what an automaton's laws tell of its kind and its lengths
pub mod Built
-- what the searcher of a slice is of, and why its build fails
pub mod Builds
-- a search of a stream by the rows that a searcher holds
pub mod ByRows
-- what a cover of a stream is of, and which searcher covers
pub mod Covered
-- where sizes fit, the limits refuse nothing
pub mod Fitting
-- whether a walk backward is held, and of which patterns
pub mod Held
-- an iterator that holds one of two others
pub mod HeldIters
-- the finds that one call after another gives
pub mod Iterated
-- where the position limit of a stream was answered
pub mod PastLimit
-- what a replacement of a stream is of
pub mod Replaced
-- calls of an iterator that holds one of two others
pub mod Sides
