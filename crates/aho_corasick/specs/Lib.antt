-- what is read out of an automaton, state by state
pub mod ReadOut
-- when one automaton is a clone of another
pub mod Clones
-- what a build promises of it
pub mod Made
