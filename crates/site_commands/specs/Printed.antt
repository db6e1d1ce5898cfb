-- The text of an answer.
use Rattle.std.specs.Prelude.{ℕ, List}
use Rattle.databases.specs.Pages.{pages_text}
use Rattle.site_commands.specs.declared.printed.Printed.{Printed}
use Rattle.site_commands.specs.declared.printed.Printed.TheVariants as answer

-- the text that the program writes of an answer
abbrev pub printed : Printed → List ℕ
printed (answer.Line text) = text
printed (answer.Founded text) = text
printed (answer.Pages events) = pages_text events
