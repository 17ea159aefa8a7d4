-- What the functions promise beyond `paper`.
pub mod Put
