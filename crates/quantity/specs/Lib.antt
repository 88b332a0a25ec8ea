pub mod Quantity
