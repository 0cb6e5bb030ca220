-- Answers of the manager: the refusals that an event can meet, those of its rule and NOTRUN in front, with their conditions; and that
-- these stand in their order.
-- Assumes nothing.
use Rattle.std.specs.Prelude.{ℕ, ◌+◌, Bool, true, not, ◌&&◌, List, [], ◌∷◌, leb}
use Rattle.kinds.specs.Choice.{◌⇒◌}
use Rattle.kinds.specs.Kinds.{status_is, refusal_place, is_refusal}
use Rattle.kinds.specs.declared.status.Status.{Status}
use Rattle.state.specs.declared.State.{State}
use Rattle.events.specs.declared.Event.{Event}
use Rattle.rules.specs.Rules.{rule_of, unheard}

abbrev pub refusals_of : State → Event → List (Status × Bool)
refusals_of s e = (Status.NotRun, unheard s e) ∷ (rule_of s e).refusals

-- refusals that stand in their order, from a place on
abbrev pub in_order : ℕ → List (Status × Bool) → Bool
in_order from [] = true
in_order from (x ∷ xs) = is_refusal x.0 && (leb from (refusal_place x.0) && in_order (refusal_place x.0 + 1) xs)

abbrev pub met : Status × Bool → Bool
met x = x.1

abbrev pub unmet : Status × Bool → Bool
unmet x = not (met x)

-- the condition holds, and the refusal is this one
abbrev pub met_as : Status → Status × Bool → Bool
met_as status x = status_is x.0 status && met x

-- where the condition holds, the refusal is not looked for before this one
abbrev pub met_from : Status → Status × Bool → Bool
met_from status x = met x ⇒ leb (refusal_place status) (refusal_place x.0)
