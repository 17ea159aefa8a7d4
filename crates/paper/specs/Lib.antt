-- Document 01 as definitions. Read in this order; each module opens with the chapter that it stands for.
-- `Limits`, `Number` and `Answer` are the words that the others use.
pub mod Limits
pub mod Number
pub mod Answer
pub mod Image
pub mod Diff
pub mod State
pub mod Volume
pub mod Merge
pub mod Compare
pub mod Plan
pub mod History
