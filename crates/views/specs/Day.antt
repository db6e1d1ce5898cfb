-- UTC days, counted from 1970-01-01 (RFC 3339, "full-date"; the calendar is that of ISO 8601).
use Rattle.std.specs.Prelude.{◌≡◌, ℕ, ℤ, pos, neg_ℤ, int_le, Bool, ◌&&◌, List}
use Rattle.jiff_core.specs.declared.civil.date.Date.{Date}
use Rattle.jiff_core.specs.Date.{epoch_day}
use Rattle.jiff_fmt.specs.Text.{date_text}

-- a day in the years 0000 to 9999, as the question `days` counts by it
abbrev pub is_day_number : ℤ → Bool
is_day_number day = int_le (neg_ℤ (pos 719528)) day && int_le day (pos 2932896)

-- the day of a line of `days` as YYYY-MM-DD: the text of the date that has this day number
abbrev pub IsDayText : ℤ → List ℕ → Type 0
IsDayText day text = (date : Date) × (epoch_day date ≡ day) × (text ≡ date_text date)
