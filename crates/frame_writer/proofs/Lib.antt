pub mod Written
pub mod Lengths
