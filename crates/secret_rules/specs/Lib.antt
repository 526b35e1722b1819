-- what the text of an expression is read as
pub mod Expressions
-- which part of a match is its secret
pub mod Secrets
-- where a text stands in a line
pub mod Standing
-- what a rule is, and to which lines it applies
pub mod Rules
-- what may be wrong with rules
pub mod Faults
-- which ranges of a line rules mark
pub mod Marks
-- what a reader searches for
pub mod Readers
-- the marks of some ranges, in order
pub mod MarkLists
-- the keywords of all rules, and which rule each is of
pub mod Keywords
-- where the readers of some rules stand
pub mod Places
-- what the steps of a marker add
pub mod Markers
-- what some rules are held with
pub mod Searching
-- what a marker is after some lines
pub mod Marking
-- which rules a text of TOML gives
pub mod Tables
-- the lines of a text
pub mod Lines
-- how occurrences are joined to runs
pub mod Joining
-- which occurrences of a line stand for all that count
pub mod Picking
-- what is written of a line
pub mod Writing
-- what is covered of the lines of a text, by patterns and by rules
pub mod Covering
-- what the cover of a stream leaves, line by line
pub mod LineCovers
-- what a visitor of lines takes
pub mod Visitors
-- what the visits of a stream's lines leave
pub mod Visits
-- the line that is being read, and how far a cover has come
pub mod OpenLines
-- the line that is being read for a visitor
pub mod SeenLines
-- what a cover of lines is of
pub mod Ready
-- the expression of what stands behind a keyword
pub mod After
