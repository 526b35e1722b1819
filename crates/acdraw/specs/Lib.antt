-- the bytes that a run stands for
pub mod Runs
-- the runs that an arrow stands for
pub mod Arrows
-- how a state is reached, and its word
pub mod Words
-- what a picture is of
pub mod Picture
-- what a call writes
pub mod Calls
