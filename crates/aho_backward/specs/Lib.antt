-- What is searched for, what a walk backward tells of it, the searcher, why none is made, texts of errors, replacement, streams, and
-- when a walk backward is worth it.
pub mod Turned
pub mod Backward
pub mod Searcher
pub mod Making
pub mod Texts
pub mod Replacing
pub mod Streams
pub mod Overhang
