use Rattle.std.proofs.Common.{◌≡◌, ◌&&◌, ◌∙◌, Bool, ap, not, refl, sym, true, false}
use Rattle.coverage.specs.Intervals.{holds}
use Rattle.lag.proofs.lacked.Goals as goal

whole : (b : Bool) → b ≡ (b && true)
whole true = refl
whole false = refl

pub returns-in-None : goal.returns-in-None
unfolding holds
returns-in-None c =
    let numbers = c.args.numbers.now in (
      numbers,
      record {
        canonical = c.size-in-None.ensures.canonical;
        members = λ n. whole (holds numbers n) ∙ ap (λ held. holds numbers n && not (holds held n)) (sym c.in-None.ensures.numbers);
      },
      c.size-in-None.ensures.size,
    )
