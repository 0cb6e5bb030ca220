-- The laws of the rules: what holds of every event in every sound state, whatever the rules say in detail.
-- Assumes nothing.
pub mod Refusals
pub mod RefusalLaws
pub mod Outline
pub mod OutlineLaws
pub mod KeptLaws
pub mod ScriptLaws
pub mod NextLaws
pub mod RangeLaws
pub mod RulingLaws
pub mod RuleLaws
