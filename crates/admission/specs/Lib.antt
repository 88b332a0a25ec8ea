pub mod Admission
pub mod Published
pub mod Steps
