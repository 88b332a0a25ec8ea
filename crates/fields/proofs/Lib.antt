pub mod Bad
pub mod Cases
pub mod Forms
pub mod Heads
pub mod Numbers
pub mod Old
pub mod Places
pub mod Placing
