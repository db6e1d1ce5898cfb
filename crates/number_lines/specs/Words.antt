-- The words of refusals.
use Rattle.std.specs.Prelude.{ℕ, List, ◌++◌, codes}
use Rattle.std.specs.Fmt.{decimal}
use Rattle.event_files.specs.declared.refusal.ReportFault.TheVariants as report
use Rattle.line_intake.specs.Words as line
use Rattle.numbers.specs.declared.fault.NumberFault.{NumberFault}
use Rattle.numbers.specs.declared.fault.NumberFault.TheVariants as number
use Rattle.number_lines.specs.declared.refusal.LineRefusal.{LineRefusal}
use Rattle.number_lines.specs.declared.refusal.LineRefusal.TheVariants as refusal

-- the words of an event of a line that can't be numbered
abbrev pub number_words : NumberFault → List ℕ
number_words number.OutOfMemory = codes "out of memory"
number_words (number.HasSequence index) = codes "event " ++ decimal index ++ codes ": HasSequence"
number_words (number.TooLarge index) = codes "event " ++ decimal index ++ codes ": TooLarge"
number_words (number.Full index) = codes "event " ++ decimal index ++ codes ": Full"

-- the words of a line's refusal to be numbered; where it spells no events, as of a file
abbrev pub words_of_refusal : LineRefusal → List ℕ
words_of_refusal (refusal.Read why) = line.words_of (report.Read why)
words_of_refusal (refusal.Number why) = number_words why
words_of_refusal (refusal.Aside index) = codes "event " ++ decimal index ++ codes ": Aside"
