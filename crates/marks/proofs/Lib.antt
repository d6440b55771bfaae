-- Laws of this crate.
pub mod Counted
