pub mod Answered
pub mod Asked
pub mod Named
pub mod Replied
pub mod Served
pub mod Values
pub mod Worded
