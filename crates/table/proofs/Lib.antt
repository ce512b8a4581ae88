mod Gaps
pub mod Kept
mod Fronts
