-- What a note stands for.
use Rattle.std.specs.Prelude.{ℕ, List, ◌∷◌, ◌==◌, if◌then◌else◌}
use Rattle.sqlite_disk.specs.Events.{Event}
use Rattle.file_disk.specs.declared.system.record.Note.{Note}

-- the event of a note on a disk's file: a tested read has key and digest before the bytes that came
abbrev pub event_of_note : Note → List ℕ → Event
event_of_note n bytes =
    (n.kind, n.at, n.count, n.done, if n.kind == 6 then n.key ∷ n.want ∷ bytes else bytes)
