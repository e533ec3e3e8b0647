pub mod Journals
pub mod Asking
pub mod Pieces
pub mod Cuts
