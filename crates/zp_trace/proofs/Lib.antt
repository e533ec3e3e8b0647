pub mod WordLists
pub mod HeaderLines
pub mod CommandLines
pub mod BadLines
pub mod OneReading
pub mod DistinctLabels
pub mod BoundLabels
