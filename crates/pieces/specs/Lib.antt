pub mod Feeding
pub mod Ending
pub mod Pieced
pub mod Inner
