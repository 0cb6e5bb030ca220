pub mod Choice
pub mod Kinds
pub mod ChoiceLaws
pub mod KindsLaws
pub mod ArmLaws
