pub mod Refusals
pub mod Steps
pub mod Journals
pub mod Paths
pub mod Spots
pub mod Books
pub mod BookLaws
