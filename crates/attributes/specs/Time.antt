-- The times of RFC 3339, and their UTC days.
use Rattle.std.specs.Prelude.{ℕ, ◌+◌, ◌-◌, ◌*◌, min, ℤ, pos, neg_ℤ, ◌+ℤ◌, ◌-ℤ◌, ◌*ℤ◌, int_le, List, [], ◌∷◌, length, drop, slice_index, take_while, Bool, ◌&&◌, ◌||◌, ◌==◌, nat_le, if◌then◌else◌, Option, Some, None, option_and_then}
use Rattle.std.specs.Char.{is_ascii_digit}
use Rattle.std.specs.Int.{int_div_euclid}
use Rattle.jiff_core.specs.Calendar.{days_in_month, days_from_civil}

-- this byte stands at i in an event's time
abbrev pub has_byte_at : List ℕ → ℕ → ℕ → Bool
has_byte_at t i byte = slice_index t i == byte

-- a digit stands at i in an event's time
abbrev pub digit_at : List ℕ → ℕ → Bool
digit_at t i = is_ascii_digit (slice_index t i)

-- the number that two digits of an event's time write
abbrev pub two_at : List ℕ → ℕ → ℕ
two_at t i = 10 * (slice_index t i - 48) + (slice_index t (i + 1) - 48)

-- two digits stand from i on in an event's time
abbrev pub are_digits_at : List ℕ → ℕ → Bool
are_digits_at t i = digit_at t i && digit_at t (i + 1)

-- the year of an event's time, of a text that has its shape
abbrev pub year_of : List ℕ → ℕ
year_of t = 100 * two_at t 0 + two_at t 2

-- a date begins an event's time: YYYY-MM-DD, then T or t
abbrev pub has_date : List ℕ → Bool
has_date t =
    are_digits_at t 0 && (are_digits_at t 2 && (has_byte_at t 4 45
    && (are_digits_at t 5 && (has_byte_at t 7 45 && (are_digits_at t 8
    && (has_byte_at t 10 84 || has_byte_at t 10 116))))))

-- hh:mm:ss behind the date of an event's time
abbrev pub has_clock : List ℕ → Bool
has_clock t =
    are_digits_at t 11 && (has_byte_at t 13 58 && (are_digits_at t 14
    && (has_byte_at t 16 58 && are_digits_at t 17)))

-- an event's time has a date, a clock, and something after them
abbrev pub has_shape : List ℕ → Bool
has_shape t = nat_le 20 (length t) && (has_date t && has_clock t)

-- a day of the calendar, for an event's time
abbrev pub is_day : ℕ → ℕ → ℕ → Bool
is_day y m d = nat_le 1 m && (nat_le m 12 && (nat_le 1 d && nat_le d (days_in_month (pos y) m)))

-- hour, minute, second of an event's time are in range: to 23, to 59, and to 60 for a leap second
abbrev pub is_clock : List ℕ → Bool
is_clock t = nat_le (two_at t 11) 23 && (nat_le (two_at t 14) 59 && nat_le (two_at t 17) 60)

-- an event's time has a day of the calendar and a clock in range
abbrev pub is_civil : List ℕ → Bool
is_civil t = is_day (year_of t) (two_at t 5) (two_at t 8) && is_clock t

-- what follows one or more digits of the fraction of an event's time
abbrev pub after_digits : List ℕ → Option (List ℕ)
after_digits [] = None
after_digits (x ∷ xs) =
    if is_ascii_digit x then Some (drop (length (take_while is_ascii_digit xs)) xs) else None

-- what follows a fraction in an event's time, where one stands
abbrev pub after_fraction : List ℕ → Option (List ℕ)
after_fraction [] = Some []
after_fraction (x ∷ xs) = if x == 46 then after_digits xs else Some (x ∷ xs)

-- the zone of an event's time is Z or z
abbrev pub is_utc : List ℕ → Bool
is_utc z = (length z == 1) && (has_byte_at z 0 90 || has_byte_at z 0 122)

-- the zone of an event's time: a sign, hours to 23, `:` and minutes to 59
abbrev pub is_offset : List ℕ → Bool
is_offset z =
    (length z == 6) && ((has_byte_at z 0 43 || has_byte_at z 0 45)
    && (are_digits_at z 1 && (has_byte_at z 3 58 && (are_digits_at z 4
    && (nat_le (two_at z 1) 23 && nat_le (two_at z 4) 59)))))

-- the seconds of the offset of an event's time without its sign
abbrev pub distance_of : List ℕ → ℕ
distance_of z = 3600 * two_at z 1 + 60 * two_at z 4

-- the seconds that the offset of an event's time is ahead of UTC
abbrev pub ahead_of : List ℕ → ℤ
ahead_of z = if has_byte_at z 0 45 then neg_ℤ (pos (distance_of z)) else pos (distance_of z)

-- the seconds that the zone of an event's time is ahead of UTC
abbrev pub offset_of : List ℕ → Option ℤ
offset_of z = if is_utc z then Some (pos 0) else (if is_offset z then Some (ahead_of z) else None)

-- the second of the day of an event's time: second 60 counts as 59
abbrev pub second_of_day : List ℕ → ℕ
second_of_day t = 3600 * two_at t 11 + 60 * two_at t 14 + min (two_at t 17) 59

-- an event's UTC day, counted from 1970-01-01, of a second of this day with this offset
abbrev pub utc_day : ℤ → ℕ → ℤ → ℤ
utc_day day second offset = int_div_euclid (day *ℤ pos 86400 +ℤ pos second -ℤ offset) (pos 86400)

-- the day of the date of an event's time, counted from 1970-01-01
abbrev pub date_of : List ℕ → ℤ
date_of t = days_from_civil (pos (year_of t)) (two_at t 5) (two_at t 8)

-- the UTC day of the date and clock of an event's time with this offset
abbrev pub day_at : List ℕ → ℤ → ℤ
day_at t offset = utc_day (date_of t) (second_of_day t) offset

-- a day of an event's time in the years 0000 to 9999
abbrev pub if_in_range : ℤ → Option ℤ
if_in_range day =
    if int_le (neg_ℤ (pos 719528)) day && int_le day (pos 2932896) then Some day else None

-- the UTC day that the zone behind an event's date and clock gives, where it is one
abbrev pub zoned_day : List ℕ → Option ℤ
zoned_day t =
    option_and_then (λ offset. if_in_range (day_at t offset))
    (option_and_then offset_of (after_fraction (drop 19 t)))

-- the UTC day of an event's time; none where the text is no time
abbrev pub time_day : List ℕ → Option ℤ
time_day t = if has_shape t && is_civil t then zoned_day t else None
