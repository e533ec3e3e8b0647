pub mod Lent
pub mod Replays
