-- What is promised of a volume over time.
pub mod Story
pub mod Made
pub mod Worked
