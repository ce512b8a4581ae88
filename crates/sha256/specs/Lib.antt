pub mod Sha256
pub mod Feeding
pub mod Hmac
pub mod Vectors
