pub mod Words
pub mod Powers
pub mod Blocks
pub mod Sparse
