pub mod Reports
pub mod Printed
