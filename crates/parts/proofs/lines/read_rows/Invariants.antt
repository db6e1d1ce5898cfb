use Rattle.std.proofs.Common.{◌≡◌, ◌++◌, List, length}
use denote.Text.{Utf8}
use denote.Shadow.{shadow}
use Rattle.parts.specs.Lines.{AreLinesOf}
use Rattle.parts.proofs.lines.read_rows.Given as goal

abbrev pub invariant-loop-line : goal.invariant-loop-line
invariant-loop-line g l =
    shadow (Utf8 l.rest)
    × ((all : List _) → AreLinesOf g.R.Row.is_line all l.text → (left : List _) × (all ≡ l.rows ++ left) × AreLinesOf g.R.Row.is_line left l.rest)

abbrev pub decreases-loop-line : goal.decreases-loop-line
decreases-loop-line g l = length l.rest
