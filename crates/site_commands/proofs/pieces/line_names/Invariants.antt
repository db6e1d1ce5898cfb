use Rattle.std.proofs.Common.{◌≡◌, take}
use Rattle.site_commands.specs.Lines.{line_names}
use Rattle.site_commands.proofs.pieces.line_names.Given as goal

abbrev pub invariant-loop-at : goal.invariant-loop-at
invariant-loop-at l = l.names ≡ line_names l.files (take l.at-index l.places)
