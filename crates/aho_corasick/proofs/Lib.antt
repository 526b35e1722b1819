-- The states of an automaton, by the words that they stand for.
pub mod ReadOut
-- For callers: what an automaton is of, from the patterns that were passed.
pub mod Callers
