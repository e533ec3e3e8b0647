pub mod Desks
pub mod Scripts
pub mod Slots
pub mod Opening
pub mod Offices
pub mod Bases
pub mod Runs
