pub mod Blocks
pub mod Tables
pub mod Ways
pub mod States
