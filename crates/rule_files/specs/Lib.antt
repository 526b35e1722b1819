pub mod Messages
pub mod Flaws
