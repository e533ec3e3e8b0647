pub mod Lying
pub mod Counted
pub mod Least
pub mod Wholes
