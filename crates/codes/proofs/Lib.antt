mod Spreads
pub mod Laws
