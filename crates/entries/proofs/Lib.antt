pub mod Layouts
pub mod Demands
