-- What the functions say of a walk over two diffs; the promise itself cites `paper` and the maps of `record`.
pub mod Walks
