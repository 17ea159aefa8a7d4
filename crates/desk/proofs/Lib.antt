-- Why the calls of the C face keep their promises.
pub mod Rows
pub mod Deciding
pub mod Shelving
pub mod Crossing
pub mod Planning
pub mod One
