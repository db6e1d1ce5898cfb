use Rattle.std.proofs.Common.{◌≡◌, ◌∙◌, ◌+◌, ◌*◌, ℕ, ℤ, pos, Bool, true, false, Some, None, ap, ap₂, refl, sym}
use Rattle.std.specs.Prelude.{◌&&◌, if◌then◌else◌}
use Rattle.jiff_core.specs.Calendar.{days_from_civil}
use Rattle.attributes.specs.Time.{date_of, is_clock, is_day, two_at, year_of}
use Rattle.attributes.proofs.time.civil_day.Goals as goal

if_both : (b k : Bool) (z : ℤ) → k ≡ true → (if b then Some z else None) ≡ (if b && k then Some z else None)
if_both true k z h = ap (λ (x : Bool). if x then Some z else None) (sym h)
if_both false k z h = refl

pub returns-clause-day : goal.returns-clause-day
returns-clause-day c =
    let t = c.args.bytes.now in
    let m = c.two_at-3.result in
    let d = c.two_at-4.result in
    let clock : is_clock t ≡ true = sym c.is_clock.ensures ∙ c.if-not-is_clock.false in
    let year : 100 * c.two_at.result + c.two_at-2.result ≡ year_of t = ap₂ (λ (a b : ℕ). 100 * a + b) c.two_at.ensures.value c.two_at-2.ensures.value in
    c.date_day.ensures.day
    ∙ (ap (λ (y : ℕ). if is_day y m d then Some (days_from_civil (pos y) m d) else None) year
    ∙ (ap₂ (λ (x y : ℕ). if is_day (year_of t) x y then Some (days_from_civil (pos (year_of t)) x y) else None) c.two_at-3.ensures.value c.two_at-4.ensures.value
    ∙ if_both (is_day (year_of t) (two_at t 5) (two_at t 8)) (is_clock t) (date_of t) clock))
