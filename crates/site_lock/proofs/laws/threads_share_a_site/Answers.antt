use Rattle.std.proofs.Crossing as heap
use Rattle.std.proofs.MapsCrossing as maps
use denote.Param.Send.{IsSend, sendable}
use Rattle.std.proofs.option.Option.TheSendSync as option_crosses
use Rattle.atomic_table.proofs.shared.Seat.TheSendSync as seat_crosses
use Rattle.turn_lock.proofs.turnstile.Turnstile.TheSendSync as turns_cross
use Rattle.site.specs.contracts.site.Site as site
use Rattle.site_lock.proofs.laws.threads_share_a_site.Goals as goal

-- a site may go to another thread
site_sends : IsSend site.the_row
site_sends = search (maps.crosses, heap.crosses, sendable) depth 80 fits 20000

pub returns-clause-pass : goal.returns-clause-pass
returns-clause-pass c = search (site_sends, maps.crosses, heap.crosses, sendable, seat_crosses.the_send, option_crosses.the_send) depth 60 fits 20000

pub returns-clause-shared : goal.returns-clause-shared
returns-clause-shared c = search (site_sends, maps.crosses, heap.crosses, sendable, turns_cross.the_sync) depth 60 fits 20000
