pub mod Opens
pub mod Texts
