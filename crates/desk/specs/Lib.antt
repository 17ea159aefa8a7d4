-- What each call of the C face answers and leaves in what was lent, and how a shelf crosses as bytes.
pub mod Answers
pub mod Rows
pub mod Shelves
