pub mod DensityTest
pub mod Inner
pub mod Told
