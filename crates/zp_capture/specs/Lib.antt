pub mod Plans
pub mod MachineLines
pub mod Limits
pub mod Opening
pub mod Summaries
