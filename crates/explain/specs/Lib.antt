pub mod Judged
pub mod Outlined
pub mod Shown
