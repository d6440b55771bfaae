pub mod Digit
pub mod Upper
pub mod Number
pub mod Line
