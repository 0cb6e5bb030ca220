pub mod Stored
pub mod ZeroLaws
pub mod WrittenLaws
