pub mod Rec
pub mod Model
pub mod Slot
