pub mod Over
pub mod Tests
