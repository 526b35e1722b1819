-- what a prefilter answers
pub mod Candidate
-- with which bytes patterns begin
pub mod FirstBytes
-- what a prefilter is of, and which one is held
pub mod Prefilter
-- where it stops
pub mod Finding
-- the inside of the builder: for private clauses
pub mod Inside
-- what was added to a builder
pub mod Taken
-- what a packed search looks for, and where it stops
pub mod Packed
-- what a strided search looks for, and where it stops
pub mod Strided
-- the heads of a few patterns
pub mod Heads
-- what a packed search with heads looks for, and where it stops
pub mod PackedHeads
-- what a search for windows looks for, and where it stops
pub mod Windows
-- for which patterns one is held
pub mod Sizes
-- how many places of a text meet a packed search with heads, by an estimate
pub mod Density
