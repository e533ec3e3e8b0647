pub mod Made
pub mod SizeWords
pub mod WordLists
pub mod TableRows
pub mod Parts
pub mod ZoneTexts
