-- Laws that the functions' proofs cite, and that the check has one outcome.
pub mod Answers
pub mod One
