pub mod Lines
pub mod Result
