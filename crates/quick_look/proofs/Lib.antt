pub mod Checked
pub mod Promised
pub mod Summed
pub mod Told
