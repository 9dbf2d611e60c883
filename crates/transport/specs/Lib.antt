pub mod Refusals
pub mod Meaning
pub mod Calls
pub mod Stored
pub mod Mailbox
pub mod Bag
pub mod HeldSized
