pub mod Reading
pub mod Stopping
