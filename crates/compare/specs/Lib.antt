-- What a comparison has checked, and what its marks stand for.
pub mod Marks
