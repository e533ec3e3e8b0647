pub mod CountLists
pub mod Digits
pub mod FewBlocks
mod FreshReads
