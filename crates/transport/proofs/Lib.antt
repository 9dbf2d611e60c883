pub mod Outcomes
pub mod Keeps
pub mod Lengths
mod Exact
mod Holds
mod Mailboxes
mod Bags
