-- runs of bytes that grow at their end
pub mod Runs
-- the word of a state, by how it is reached
pub mod Words
-- the last byte that leads to a state
pub mod LastBytes
-- the numbers that are drawn
pub mod Drawn
-- arrows that are added
pub mod Arrows
