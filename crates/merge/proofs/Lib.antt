-- Laws that the functions' proofs cite, and that a merge has one outcome.
pub mod Left
pub mod Cursors
pub mod Walks
pub mod Answers
pub mod One
