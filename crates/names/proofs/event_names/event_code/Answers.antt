-- `event_code`: what the search finds.
use Rattle.std.proofs.Common.{rules}
use Rattle.std.proofs.lemmas.Iterator.{first_from_Range}
use Rattle.names.specs.EventNames.{event_name}
use Rattle.names.proofs.EventNamesSearch.{Is, IsNot, first_is_code}
use Rattle.names.proofs.event_names.event_code.Goals as goal

pub returns : goal.returns
unfolding event_name
returns c =
    first_is_code c.args.name.now c.find.result
    (first_from_Range _ _ _ _ (Is c.args.name.now) (IsNot c.args.name.now) c.find.ensures.ran
    (λ n f called. search rules)
    (λ n f called. (search rules, search rules)))
