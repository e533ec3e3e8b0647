pub mod Keys
pub mod Steps
pub mod Refusals
