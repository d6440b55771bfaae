-- The crate's definitions.
pub mod Ray
