-- What may be read.
use Rattle.std.specs.Prelude.{◌≡◌, ℕ, List, Option, None, Some}
use Rattle.event_files.specs.declared.input.Unread.{Unread}

-- an input of the program may give these bytes: those it is known to have, or, if unknown, any
abbrev pub MayGive : Option (List ℕ) → List ℕ → Type 0
MayGive None bytes = Unit {0}
MayGive (Some known) bytes = bytes ≡ known

-- of a system's files nothing is known: a name may be read as any bytes
abbrev pub MayBeRead : List ℕ → List ℕ → Type 0
MayBeRead name bytes = Unit {0}

-- of the system's files nothing is known: a name may be unread for any reason
abbrev pub MayBeUnread : List ℕ → Unread → Type 0
MayBeUnread name why = Unit {0}
