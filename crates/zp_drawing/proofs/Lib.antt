pub mod Fields
pub mod FirstMost
pub mod FreeBlocks
pub mod Padded
pub mod TableTexts
pub mod Written
