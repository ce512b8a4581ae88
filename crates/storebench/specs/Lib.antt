pub mod State
pub mod Said
pub mod Text
pub mod Printed
