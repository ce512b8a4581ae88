pub mod Accepted
pub mod Cells
pub mod Chunks
pub mod Imaged
pub mod Leading
pub mod Led
mod Prefixes
mod Sizes
pub mod Stores
mod Tally
