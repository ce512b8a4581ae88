pub mod Asked
pub mod Eight
pub mod Kinds
