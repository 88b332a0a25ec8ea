pub mod Resources
