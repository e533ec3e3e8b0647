pub mod Masks
pub mod Packing
