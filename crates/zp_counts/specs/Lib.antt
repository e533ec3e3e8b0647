pub mod CountBoards
pub mod Packing
pub mod Kinds
