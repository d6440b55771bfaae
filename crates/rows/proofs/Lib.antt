pub mod Words
pub mod Fold
pub mod Checks
pub mod Alike
pub mod Layouts
pub mod InOrder
