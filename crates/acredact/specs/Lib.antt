-- what the arguments ask for, and what is told of wrong ones
pub mod Common
pub mod Long
pub mod LineSizes
pub mod Arguments
pub mod Messages
pub mod Mistakes
-- what the lines of files of patterns and of tables hold
pub mod Tables
pub mod LineFaults
pub mod Forms
pub mod Parts
pub mod Values
pub mod Named
-- which patterns a pseudonym can spell
pub mod Spelling
-- what a redaction is, and that no secret is passed on
pub mod Secrets
pub mod Faults
pub mod Streams
-- by what a stream is redacted
pub mod Ways
-- which pieces are clean
pub mod Pieces
-- what is written of files
pub mod Reads
pub mod Deeds
pub mod Files
pub mod Hidden
-- how often the text of each pattern was written
pub mod Totals
-- how much was read, and a summary
pub mod Metering
pub mod Volumes
pub mod Bounds
pub mod Sums
pub mod Summaries
-- what the options add to the patterns
pub mod Loading
-- which texts hold a match, and what lines have
pub mod Looks
pub mod Findings
-- what a call does and tells
pub mod Builds
pub mod Counts
pub mod Failures
pub mod Outcomes
pub mod Short
pub mod Doubts
pub mod Calls
pub mod Checks
pub mod Ready
pub mod Statuses
-- files whose names are not UTF-8
pub mod Apart
-- by what a walk backward redacts
pub mod Back
-- files for the output
pub mod InPlace
-- calls with rules
pub mod LineRules
pub mod LongLines
pub mod RunCounts
pub mod RunPieces
pub mod Ruled
pub mod RuledChecks
-- pseudonyms: keyed digests
pub mod Hmac
pub mod Pseudonyms
