pub mod Runs
pub mod Producing
pub mod Playing
pub mod Driving
