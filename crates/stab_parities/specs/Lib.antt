pub mod Ascending
pub mod OddNumbers
