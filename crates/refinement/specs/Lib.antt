pub mod Question
pub mod Refinement
pub mod Inner
pub mod Asked
pub mod Told
