pub mod Linked
pub mod Moved
