pub mod Bodies
pub mod Fields
pub mod Form
pub mod Numbers
pub mod Old
