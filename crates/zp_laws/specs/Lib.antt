pub mod Found
pub mod KeptLawful
pub mod FreePages
pub mod TakenBack
pub mod Journals
pub mod KeptBooks
pub mod KeptRuns
pub mod RunsByBlocks
