pub mod Commissioned
pub mod Sheet
pub mod Steps
