pub mod Words
pub mod Numbered
pub mod Gathered
pub mod Appended
