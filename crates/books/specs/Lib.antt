pub mod Lists
pub mod Books
pub mod Facts
pub mod Fillers
