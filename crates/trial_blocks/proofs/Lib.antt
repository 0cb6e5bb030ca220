pub mod BitwiseLaws
pub mod HandLaws
