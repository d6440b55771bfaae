pub mod Grammar
pub mod Lines
pub mod Sheets
pub mod Meaning
pub mod Told
