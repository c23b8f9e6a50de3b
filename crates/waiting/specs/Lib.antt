pub mod Orders
pub mod Asking
pub mod Held
pub mod States
