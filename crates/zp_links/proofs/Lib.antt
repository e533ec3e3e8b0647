pub mod Places
pub mod Splice
pub mod Writes
pub mod Telling
pub mod Moving
