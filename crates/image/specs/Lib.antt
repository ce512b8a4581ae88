pub mod Cut
pub mod Kinds
pub mod Replay
pub mod Opening
pub mod Laws
pub mod Scan
pub mod Stores
