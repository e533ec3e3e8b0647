pub mod Frames
pub mod Splitting
pub mod Crews
pub mod Handing
pub mod Around
pub mod RunsOfLines
pub mod Steps
