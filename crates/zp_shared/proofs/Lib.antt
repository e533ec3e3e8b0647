pub mod Publishing
pub mod Guarding
pub mod Opening
pub mod Places
pub mod Readers
pub mod Viewing
pub mod Cutting
