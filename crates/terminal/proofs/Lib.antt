pub mod BufferLaws
pub mod NumeralLaws
