mod Laid
pub mod Records
pub mod Slots
pub mod Told
