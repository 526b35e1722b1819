-- why a build fails
mod Builds
-- the best of the patterns that begin at a place
mod Leaders
-- patterns and words turned round
mod TurnedWords
-- what the states of a walk backward tell
mod Telling
-- and those of a block
mod BlockStates
-- one pass forward finds all
mod Passing
-- by how much patterns go on behind others
mod Overhangs
-- and they stand one behind the other
mod Apart
-- what is written for a block of a stream
mod Writing
-- how far a stream has come
mod Streaming
