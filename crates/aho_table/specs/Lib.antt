-- borders between bytes, and the classes that they make
pub mod Alphabet
pub mod Table
-- why a store of lists, or a table, refuses to grow
pub mod Refusal
-- the inside of one representation: for the clauses of `links` that are private, and cited by no other crate
pub mod Inside
pub mod Remapping
pub mod Renaming
-- lists in one vector, told by numbers alone
pub mod Rings
-- what a store of lists is seen as
pub mod Lists
-- lists of transitions, which rise by byte
pub mod TransitionList
-- lists of patterns, laid down in one vector
pub mod Words
-- the inside of the stores of lists: for private clauses, and cited by no other crate
pub mod ListsInside
