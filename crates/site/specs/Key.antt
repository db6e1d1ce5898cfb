-- The events of a set E, a list in key order, that have a source and an id: these two are to tell
-- events apart (CloudEvents 1.0.2, "id"), so that there are several of them only in a conflict.
use Rattle.std.specs.Prelude.{◌≡◌, ℕ, List, Contains, filter}
use Rattle.attributes.specs.Event.{EventValue}
use Rattle.inbox.specs.Conflicts.{conflicts}
use Rattle.inbox.specs.Shown.{has_key}
use Rattle.inbox.specs.declared.conflict.Conflict.{Conflict}

-- the events of a site's set that have a source and an id, in the order of their texts
abbrev pub with_key : List ℕ → List ℕ → List EventValue → List EventValue
with_key source id E = filter (has_key source id) E

-- of a conflict a site finds its events by source and id, in its order
abbrev pub ConflictsAreFound : Type 0
ConflictsAreFound = (E : List EventValue) (c : Conflict) → Contains (conflicts E) c
    → with_key c.source c.id E ≡ c.events
