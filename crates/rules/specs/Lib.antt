-- The specifications of `rules`: the mode rules, an event's records with its STATUS, and the ruling that the code hands back. What those
-- above may use of them stands in `rule_laws`.
-- Assumes nothing.
pub mod Rule
pub mod Rules
pub mod Script
pub mod Ruling
