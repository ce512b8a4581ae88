pub mod Standing
pub mod Gathering
pub mod Listed
pub mod Numbers
