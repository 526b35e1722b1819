pub mod HeldStreams
pub mod Helds
pub mod Laws
pub mod Laying
pub mod Listing
pub mod Rooms
pub mod Values
pub mod Written
