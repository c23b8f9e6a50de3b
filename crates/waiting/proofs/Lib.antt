pub mod Heaps
pub mod Tests
pub mod Filling
pub mod Turns
