-- What the enums and structs of this crate stand for in `paper`.
pub mod Decisions
pub mod Writes
pub mod Views
pub mod Lags
