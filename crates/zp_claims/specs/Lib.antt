pub mod Noted
pub mod Codes
pub mod Stale
