pub mod Rooms
pub mod Locks
pub mod Visits
pub mod Rows
