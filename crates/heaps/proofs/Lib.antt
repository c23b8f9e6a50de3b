mod Fronts
mod Counted
pub mod Laws
