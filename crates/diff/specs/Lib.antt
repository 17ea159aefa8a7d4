-- What the calls of this crate say.
pub mod Whole
