pub mod OneProcessor
pub mod Inner
pub mod Told
