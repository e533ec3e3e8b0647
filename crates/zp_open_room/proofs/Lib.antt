pub mod Given
pub mod Posted
pub mod Totals
