pub mod Runs
pub mod Relation
pub mod Playing
