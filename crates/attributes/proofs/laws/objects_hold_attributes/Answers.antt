use Rattle.attributes.proofs.LawLemmas.{depth_event, exact_event}
use Rattle.attributes.proofs.EventLemmas.{members_direct, names_allowed, values_allowed}
use Rattle.attributes.proofs.laws.objects_hold_attributes.Goals as goal

pub returns : goal.returns
returns c = record { members = members_direct; names = names_allowed; values = values_allowed; exact = exact_event; shallow = depth_event }
