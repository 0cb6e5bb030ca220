pub mod Input
pub mod Numeral
pub mod Turns
