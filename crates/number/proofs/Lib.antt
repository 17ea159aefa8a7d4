-- Laws that the functions' proofs cite.
pub mod Fields
pub mod Puts
pub mod Blocks
