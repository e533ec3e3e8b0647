pub mod Chosen
pub mod Clear
pub mod Sound
