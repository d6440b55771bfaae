pub mod Words
pub mod Checks
pub mod Layouts
pub mod Inner
pub mod Methods
