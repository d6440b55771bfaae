pub mod Text
pub mod Entries
pub mod Answer
pub mod ReadBack
pub mod Told
