-- The bytes given, how long what occurs in them is, and bytes in which nothing begins.
mod GivenBytes
pub mod PatternLengths
mod PassedOver
-- One byte more: the next match, whatever follows, and where a state dies.
mod NextMatches
mod Walks
mod Deaths
-- One call more: a refill of the buffer, and what the iterator has read and told.
mod Refilled
mod Afters
mod Reported
mod Advanced
mod Found
-- Streams whose bytes are pushed.
pub mod Pushings
-- Many calls: the finds of a stream, their number, and replacements.
mod StreamFinds
mod Countings
mod Replacings
pub mod FindRuns
pub mod Collected
mod StreamRuns
mod Runnings
pub mod Called
