-- Laws that the proofs of the functions cite, and the theorems that each outcome is one value.
pub mod Checks
pub mod Stores
pub mod StateLaws
pub mod Walk
pub mod Passing
pub mod One
