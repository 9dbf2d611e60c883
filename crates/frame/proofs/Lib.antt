pub mod Ascents
pub mod Propriety
