-- What the enums and structs of this crate stand for in `paper`.
pub mod Refusals
pub mod Heads
pub mod Blocks
pub mod States
pub mod Images
pub mod Records
