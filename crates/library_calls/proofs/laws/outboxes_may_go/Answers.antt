use denote.Param.Send.{sendable}
use Rattle.std.proofs.Crossing as heap
use Rattle.library_calls.proofs.Crossing.{file_service_send, text_send}
use Rattle.library_calls.proofs.laws.outboxes_may_go.Goals as goal

pub returns : goal.returns
returns c = search (file_service_send, text_send, heap.crosses, sendable) depth 20
