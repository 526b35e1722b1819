-- One byte more of a walk.
pub mod Further
-- The runs of what counts.
pub mod Chosen
pub mod Listed
-- What is written, and what it makes of the cover.
pub mod Counted
pub mod Written
pub mod Copied
pub mod Covered
pub mod Sound
pub mod Fed
-- How far a state reaches back.
pub mod Back
-- From one match that is told to the next.
pub mod Reached
-- From one read to the next.
pub mod Going
pub mod Begun
pub mod Ended
-- What is passed over.
pub mod Passed
