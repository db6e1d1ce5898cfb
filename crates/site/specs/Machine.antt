-- The site as a machine. Its state is the list of arrivals: events, each once, in the order in
-- which they came. A call is a command with the reply that it got.
use Rattle.std.specs.Prelude.{◌≡◌, ◌+◌, ◌<◌, List, [], ◌∷◌, ◌++◌, length, take}
use Rattle.attributes.specs.Event.{EventValue}
use Rattle.coverage.specs.Digests.{Digests}
use Rattle.inbox.specs.KeyOrder.{key_cmp}
use Rattle.inbox.specs.Ordered.{append_new}
use Rattle.inbox.specs.Sets.{set_of}
use Rattle.views.specs.Question.{IsTrueOf, query_of}
use Rattle.site.specs.Arrival.{AreDistinct, HaveEachNumber}
use Rattle.site.specs.Delta.{delta}
use Rattle.site.specs.Page.{page}
use Rattle.site.specs.declared.call.Call.{Call}
use Rattle.site.specs.declared.call.Command.{Command}
use Rattle.site.specs.declared.call.Command.TheVariants as command
use Rattle.site.specs.declared.call.Reply.{Reply}
use Rattle.site.specs.declared.call.Reply.TheVariants.{Answered, Paged, Refused, Summed, Took}

abbrev pub call : Command → Reply → Call
call c r = record { command = c; reply = r }

-- the events that a site's command with this reply handled, in their order: all of a batch that was
-- taken, and the first of one that was refused
abbrev pub handled_by : Command → Reply → List EventValue
handled_by (command.Take L) (Took fresh repeated) = L
handled_by (command.Take L) (Refused taken fresh) = take taken L
handled_by _ _ = []

-- a site's arrivals after a call: each event that it handled comes to the end, unless it is there
abbrev pub arrivals_after : List EventValue → Call → List EventValue
arrivals_after A c = append_new key_cmp A (handled_by c.command c.reply)

-- the command to a site has this reply where these are the arrivals
abbrev pub IsReply : List EventValue → Command → Reply → Type 0
IsReply A (command.Take L) (Took fresh repeated) =
    (length A + fresh ≡ length (append_new key_cmp A L)) × (fresh + repeated ≡ length L)
IsReply A (command.Take L) (Refused taken fresh) =
    (length A + fresh ≡ length (append_new key_cmp A (take taken L))) × (taken < length L)
IsReply A command.Summary (Summed summary) = Digests (set_of A) summary
IsReply A (command.DeltaPage peer from limit) (Paged events) =
    events ≡ page (delta (set_of A) peer) from limit
IsReply A (command.Page from limit) (Paged events) = events ≡ page (set_of A) from limit
IsReply A (command.Fresh n limit) (Paged events) = events ≡ page A n limit
IsReply A (command.Query query) (Answered answer) =
    (query_of answer ≡ query) × IsTrueOf (set_of A) answer
IsReply A (command.Take L) _ = ⊥
IsReply A _ (Refused taken fresh) = (taken ≡ 0) × (fresh ≡ 0)
IsReply A _ _ = ⊥

-- the reply of the call is one that a site gives its command where these are the arrivals
abbrev pub HasRightReply : List EventValue → Call → Type 0
HasRightReply A c = IsReply A c.command c.reply

-- the calls of a site, one after another, lead from these arrivals to those
abbrev pub Runs : List EventValue → List Call → List EventValue → Type 0
Runs A [] B = B ≡ A
Runs A (c ∷ cs) B = HasRightReply A c × Runs (arrivals_after A c) cs B

-- others added to the site's arrivals, and then came the call; what is there now are events with
-- numbers, each once, so nobody added one that was there
abbrev pub Follows : List EventValue → Call → List EventValue → Type 0
Follows A c B =
    (others : List EventValue) × HasRightReply (A ++ others) c × (B ≡ arrivals_after (A ++ others) c)
    × AreDistinct B × HaveEachNumber B
