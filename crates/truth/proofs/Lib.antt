-- Why it holds.
pub mod Moves
pub mod Cuts
pub mod Demand
pub mod Diffs
pub mod Accepts
pub mod Shortcuts
pub mod Worked
