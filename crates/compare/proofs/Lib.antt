-- Laws that the functions' proofs cite, and that a comparison has one outcome.
pub mod Marking
pub mod Writing
pub mod Answers
pub mod One
