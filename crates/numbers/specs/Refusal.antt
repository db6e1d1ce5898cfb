-- When events can't be numbered.
use Rattle.std.specs.Prelude.{ℕ, suc, ◌+◌, nat_lt, length, List, [], ◌∷◌, Option, Some, None, is_some, codes, if◌then◌else◌}
use Rattle.std.specs.Option.{option_or}
use Rattle.attributes.specs.Event.{EventValue, attribute_of, text}
use Rattle.attributes.specs.Fault.{max_text}
use Rattle.numbers.specs.declared.fault.NumberFault.{NumberFault}
use Rattle.numbers.specs.declared.fault.NumberFault.TheVariants.{HasSequence, TooLarge}

-- why an event without number, at the index of a batch, can have none: it has one, or its text has
-- no room for one
abbrev pub refusal_at : ℕ → EventValue → Option NumberFault
refusal_at i e =
    if is_some (attribute_of (codes "sequence") e) then Some (HasSequence i)
    else if nat_lt max_text (length (text e) + 34) then Some (TooLarge i)
    else None

-- the first refusal among events to be numbered, of which the first has this index
abbrev pub refusal_from : ℕ → List EventValue → Option NumberFault
refusal_from i [] = None
refusal_from i (e ∷ es) = option_or (refusal_at i e) (refusal_from (suc i) es)
