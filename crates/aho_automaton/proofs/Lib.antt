-- What a state's list tells, and walks over a span's bytes.
pub mod Places
pub mod Told
pub mod Walks
-- A search that begins later, and what an iteration finds next.
pub mod Origins
pub mod Finds
-- Overlapping search: the listing place by place, how far it has come, what ends where a state is held, and how many.
pub mod Listing
pub mod PartWay
pub mod Endings
pub mod Counts
pub mod Gives
pub mod Drained
-- Iteration, and the runs of replacement closures over it.
pub mod NextFinds
pub mod RunsLeft
-- Searches that skip to a prefilter's candidates: plain ones, then overlapping ones.
pub mod Skipping
pub mod Passed
-- The runs of a cover.
pub mod CoverSteps
pub mod CoverCopies
