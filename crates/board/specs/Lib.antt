pub mod Board
pub mod Calls
pub mod Run
pub mod Steps
pub mod Machine
pub mod Events
