pub mod Bounds
pub mod Numbers
pub mod Ascending
pub mod Listed
pub mod Meanings
pub mod Forms
pub mod Covers
