pub mod Choice
pub mod Sum
pub mod Search
pub mod Climb
pub mod Fill
pub mod Bits
pub mod Along
pub mod Inner
