pub mod Checked
pub mod Rows
