pub mod Cuts
pub mod Digits
pub mod Spelling
pub mod Written
