use Rattle.std.proofs.Common.{◌≤◌, ◌++◌, length, map, ap, ◌∙◌}
use Rattle.serde_json.specs.View.{view}
use Rattle.event_json.specs.Faulty.{faulty, member_of}
use Rattle.event_json.specs.Reading.{max_input}
use Rattle.event_json.proofs.FaultyLemmas.{tells_whole, told-named}
use Rattle.event_json.proofs.PieceLemmas.{of_some}
use Rattle.event_json.proofs.faulty.read_faulty.Goals as goal

pub returns-in-Some-clause-ok : goal.returns-in-Some-clause-ok
returns-in-Some-clause-ok c =
    let fits : length c.args.bytes.now ≤ max_input = search in
    tells_whole c.args.bytes.now c.in-Some.found (of_some _ c.in_ok-found.field-0 c.in-Some.found c.in-Some.is c.in_ok-found.ensures.gathers) fits

pub returns-in-Some-clause-named : goal.returns-in-Some-clause-named
returns-in-Some-clause-named c =
    let found = of_some _ c.in_ok-found.field-0 c.in-Some.found c.in-Some.is c.in_ok-found.ensures.gathers in
    told-named found.members c.in-Some.found.told.items found.is.0

pub returns-clause-named : goal.returns-clause-named
returns-clause-named c =
    told-named (map view c.in_ok-members.members.items) c.tell_faulty.new.told.items (c.in_ok-tell_faulty.ensures ∙ ap (λ t. map member_of t ++ faulty 0 (map view c.in_ok-members.members.items)) c.new-told.ensures.items)
