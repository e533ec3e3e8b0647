pub mod SameReply
pub mod Repeating
pub mod Replayed
pub mod FirstEntries
pub mod Together
