pub mod PlannedZones
pub mod MachineTelling
pub mod Summing
