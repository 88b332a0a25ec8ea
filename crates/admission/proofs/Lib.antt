pub mod Fewer
pub mod Laws
pub mod Lists
pub mod Steps
pub mod Theorem2
