pub mod Lists
pub mod Products
