pub mod Gathering
pub mod JournalText
