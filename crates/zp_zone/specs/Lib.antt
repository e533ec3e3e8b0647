pub mod NamedZone
pub mod Making
pub mod Kept
pub mod Seats
pub mod Asking
pub mod Runs
pub mod RunsAt
pub mod Lowest
