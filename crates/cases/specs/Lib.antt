pub mod Ends
pub mod SmallCases
