pub mod Bytes
pub mod Keys
pub mod Orders
pub mod Writing
