pub mod Agreement
mod Blocks
mod Differences
mod Maps
pub mod Open
mod Pads
mod Rotations
mod Streams
pub mod Writes
