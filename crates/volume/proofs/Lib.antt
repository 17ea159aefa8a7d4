-- Laws that the proofs of the functions cite, and the theorems that each outcome is one value.
pub mod Deciding
pub mod Differences
pub mod Writing
pub mod Applying
pub mod Viewing
pub mod One
