use Rattle.std.proofs.Common.{[], refl, inr}
use Rattle.feeds.proofs.GateLemmas.{gated_unread}
use Rattle.feeds.proofs.feeding.feed.Goals as goal

pub returns-in-Err-clause-fed : goal.returns-in-Err-clause-fed
returns-in-Err-clause-fed g c = ([], g.met.D.Desk.stays _, inr (refl, (c.in-Err.fault, c.unread.ensures, c.in-Err.ensures.refused)), gated_unread _ _ _ _ _ _ c.unread.ensures)
