pub mod Links
pub mod Fields
pub mod Packed
pub mod Entries
