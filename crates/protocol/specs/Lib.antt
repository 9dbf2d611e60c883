pub mod Lines
pub mod Calls
pub mod Steps
pub mod Runs
pub mod Tallies
pub mod Promises
pub mod Turns
