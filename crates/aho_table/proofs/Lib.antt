-- borders between bytes, and the classes that they make
pub mod Classes
-- fronts of lists that are gone through
pub mod Fronts
-- a list of transitions that rises by byte: what it answers, and what one entry more makes of it
pub mod TransitionLists
-- a table of states whose states are read, changed and added
pub mod States
-- why a table is not to have so many entries
pub mod Refusals
-- two states that change places
pub mod Renumbered
-- rows: how one is filled, and what a change of the table leaves of them
pub mod Rows
-- numbers that are exchanged for others
pub mod RenamedStates
-- two states that change places
pub mod SwappedStates
-- the numbers of the states' lists
pub mod Numbers
-- the states of records
pub mod Records
-- a table where a list of one state was changed, or its link
pub mod Changes
-- the same of records, and of the lists by their numbers
pub mod RenumberedRecords
-- lists in one vector: of patterns, and of transitions
pub mod Patterns
pub mod Listed
pub mod Laying
pub mod PatternChanges
pub mod Closed
pub mod Runs
pub mod Stores
pub mod ListChanges
pub mod TransitionRuns
pub mod TransitionStores
pub mod TransitionGaps
pub mod TransitionChanges
pub mod Results
pub mod Walks
pub mod SideBySide
pub mod Families
pub mod Firsts
pub mod Sides
pub mod Renamed
