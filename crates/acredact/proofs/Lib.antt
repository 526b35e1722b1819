pub mod Common
-- what is told of doubtful patterns
mod Doubting
-- what is written is a redaction, or begins one
mod Redactions
-- what a replacement by a closure writes
mod Counted
-- what comes of files
mod OneFile
mod Done
mod Turns
-- how often the text of each pattern was written, and what is counted for the patterns that were given
mod Totals
-- how an automaton redacts streams
mod Suited
mod Loaded
-- what comes of the files of a job
mod Jobs
-- which pieces are clean, and what follows
mod Flaws
mod Hiding
mod Calls
-- what comes of files that are redacted, to the output or in place
mod RedactedCalls
mod Given
mod Outcomes
mod Statuses
-- what is seen of files
mod Looks
mod Checks
mod Readings
mod Ready
-- what a searcher holds can do what it can
mod Standing
-- calls with rules
mod RuledCalls
mod LookedFiles
