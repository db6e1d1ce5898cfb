use Rattle.std.proofs.Common.{◌≡◌, ◌+◌, map, length, ap, sym, ◌∙◌, Some}
use Rattle.std.proofs.lemmas.List.{length-map}
use Rattle.serde_json.specs.Data.{array}
use Rattle.serde_json.specs.View.{view, items_view}
use Rattle.event_json.proofs.FaultyLemmas.{more_told}
use Rattle.event_json.proofs.WalkLemmas.{list_of-items_view}
use Rattle.event_json.proofs.faulty.FaultyMembersGather.add.Goals as goal

pub tell_faulty-requires-clause-text : goal.tell_faulty-requires-clause-text
tell_faulty-requires-clause-text c = (array (items_view c.args.members.items), c.requires, ap Some (list_of-items_view c.args.members.items))

pub returns : goal.returns
returns c =
    let more : c.len-more.result ≡ length c.args.members.items = search in
    more_told c.args.self (record { told = c.tell_faulty.new.told; count = c.args.self.count + c.len-more.result }) (map view c.args.members.items) c.in_ok-tell_faulty.ensures
    (ap (λ k. c.args.self.count + k) (more ∙ sym (length-map c.args.members.items view)))
