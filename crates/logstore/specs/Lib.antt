pub mod Log
pub mod Places
pub mod Cells
