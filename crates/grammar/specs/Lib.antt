pub mod Texts
pub mod Kinds
pub mod Trees
pub mod Grammar
pub mod Places
