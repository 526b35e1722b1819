pub mod Counts
pub mod Refusals
pub mod Buffer
pub mod Errors
