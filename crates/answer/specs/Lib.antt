pub mod Refusals
pub mod Phases
