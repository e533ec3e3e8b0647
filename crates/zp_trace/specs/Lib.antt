pub mod Lines
pub mod Spelling
pub mod Grammar
pub mod LabelKeys
