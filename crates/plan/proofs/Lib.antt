-- Laws that the proofs of the functions cite, and the theorem that the outcome is one.
pub mod Fills
pub mod Entries
pub mod Leads
pub mod Walks
pub mod Answering
pub mod One
