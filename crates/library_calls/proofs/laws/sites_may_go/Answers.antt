use denote.Param.Send.{sendable}
use Rattle.std.proofs.Crossing as heap
use Rattle.library_calls.proofs.Crossing.{held_site_send, offers_send, text_send}
use Rattle.library_calls.proofs.laws.sites_may_go.Goals as goal

pub returns : goal.returns
returns c = search (held_site_send, offers_send, text_send, heap.crosses, sendable) depth 20
