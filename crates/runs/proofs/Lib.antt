mod Joining
mod Going
mod Turns
