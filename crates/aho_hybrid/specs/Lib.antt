pub mod Layout
pub mod Reading
pub mod Filled
pub mod Made
