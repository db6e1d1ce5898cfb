-- What holds of a site in a caller's room, whatever was done.
use denote.Param.Send.{IsSend}
use Rattle.library_calls.specs.contracts.held.Held as held
use Rattle.library_calls.specs.contracts.numbers_held.NumbersHeld as numbers_held
use Rattle.library_calls.specs.contracts.outbox_held.OutboxHeld as outbox_held

-- a site of libjumbetai may go to another thread, with its files
abbrev pub SitesMayGo : Type 0
SitesMayGo = IsSend held.the_row

-- so may libjumbetai's outbox over files go to another thread
abbrev pub OutboxesMayGo : Type 0
OutboxesMayGo = IsSend outbox_held.the_row

-- so may libjumbetai's numberer over files go to another thread
abbrev pub NumberersMayGo : Type 0
NumberersMayGo = IsSend numbers_held.the_row
