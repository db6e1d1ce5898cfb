-- Why feeds have nothing to read.
use Rattle.std.specs.Prelude.{◌≡◌, Bool, true, ℕ, List}
use Rattle.site_program.specs.Jobs.{IsFirstUnreadLine}
use Rattle.site_commands.specs.Pieces.{lines_behind}
use Rattle.site_program.specs.declared.batches.FeedFault.{FeedFault}
use Rattle.site_program.specs.declared.batches.FeedFault.TheVariants as feed

-- a run has no feeds: memory ran out, or the files have lines, one of which is the first at fault
abbrev pub HasNoFeeds : Bool → ℕ → List (List ℕ) → FeedFault → Type 0
HasNoFeeds has_lines first contents feed.OutOfMemory = Unit {0}
HasNoFeeds has_lines first contents (feed.Line refused) =
    (has_lines ≡ true) × IsFirstUnreadLine (lines_behind first contents) refused
