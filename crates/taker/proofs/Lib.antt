pub mod Entries
pub mod Lookups
pub mod Spots
pub mod Orders
pub mod Edits
pub mod Pages
pub mod Laws
pub mod LastWords
