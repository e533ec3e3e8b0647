pub mod InfoLines
pub mod Decimal
pub mod Fields
