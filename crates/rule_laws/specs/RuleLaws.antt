-- The laws of the rules on one page: all that the log, the reader and the great theorem may use of the mode rules.
-- Assumes nothing.
-- the next state
pub use Rattle.rule_laws.specs.NextLaws.{next-sound}
pub use Rattle.rule_laws.specs.ScriptLaws.{next_form, next_count}
-- the script
pub use Rattle.rule_laws.specs.ScriptLaws.{script_form, script-length}
pub use Rattle.rule_laws.specs.KeptLaws.{records-length}
pub use Rattle.rule_laws.specs.RefusalLaws.{records_no_status}
pub use Rattle.rule_laws.specs.RangeLaws.{script_range, script-fits}
-- refusals
pub use Rattle.rule_laws.specs.RefusalLaws.{refusals_ordered, rule_status, refused_met, refused_first, refused_alone, taken-unmet, unmet-taken}
pub use Rattle.rule_laws.specs.ScriptLaws.{refused_script, refused_next}
-- what the code hands back
pub use Rattle.rule_laws.specs.RulingLaws.{ruling_sized, ruling_status, ruling-script, ruling_state, ruling_used, ruling-bytes}
