-- What an open file shows.
use Rattle.std.specs.Prelude.{List}
use Rattle.sqlite_disk.specs.Events.{Event}
use Rattle.file_disk.specs.declared.system.OpenFile.{OpenFile}

-- the calls on the disk's file so far, the newest first
abbrev pub calls_of : OpenFile → List Event
calls_of f = f.record.calls
