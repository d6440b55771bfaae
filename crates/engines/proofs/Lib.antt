-- Laws of this crate.
pub mod Start
