pub mod Lists
pub mod Loaded
pub mod Local
pub mod Records
