pub mod Better
pub mod OneByte
pub mod Relinked
pub mod Range
pub mod Callers
