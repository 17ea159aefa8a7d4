-- What the structs and enums of this crate stand for in `paper`, and the promise of a plan.
pub mod Shelves
pub mod Plans
pub mod Search
