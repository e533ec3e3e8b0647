pub mod Sound
pub mod Opened
pub mod Parts
pub mod Choices
pub mod Held
pub mod Runs
pub mod FallingRuns
pub mod Bare
