pub mod Figures
pub mod Rows
pub mod Report
pub mod Sizes
