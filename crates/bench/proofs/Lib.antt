pub mod WordTests
pub mod BestOfTwo
pub mod BestAtRange
pub mod Begins
pub mod ListedEnds
pub mod Relinking
