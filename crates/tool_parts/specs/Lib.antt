pub mod Asked
pub mod Automata
pub mod Building
pub mod Failures
pub mod Streams
pub mod Answers
pub mod Arguments
pub mod Names
pub mod Messages
pub mod Telling
pub mod Reasons
-- what the programs share that read options: long names, what an argument is, and what is told of options that are misused
pub mod ArgumentForms
pub mod Misuses
pub mod OptionNames
