pub mod Ends
pub mod Picking
pub mod Promising
