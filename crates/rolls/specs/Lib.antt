pub mod Boxes
pub mod Rolls
pub mod Laws
pub mod Places
pub mod Source
