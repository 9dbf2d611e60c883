pub mod Carrying
pub mod Answers
pub mod Meaning
pub mod Starting
