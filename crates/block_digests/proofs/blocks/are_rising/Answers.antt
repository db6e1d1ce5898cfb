use Rattle.std.proofs.Common.{inl, inr, rules, ◌≡◌, ◌<◌, ◌≤◌, ◌+◌, ℕ, length, slice_index, true, arith, sym, ap, ◌∙◌, subst}
use Rattle.std.proofs.Math.Nat.{eq-or-lt_of_le}
use Rattle.block_digests.specs.steps.Mended.{is_rise}
use Rattle.block_digests.proofs.RiseLemmas.{rising_events}
use Rattle.block_digests.proofs.blocks.are_rising.Goals.{else-i-places-via-then-i-places+else-not-is_rise, else-i-places-via-else-i-places}
use Rattle.block_digests.proofs.blocks.are_rising.Goals as goal

pub loop-i-init : goal.loop-i-init
loop-i-init g c = λ j l m. absurd (omega (arith, l))

pub loop-i-preserved : goal.loop-i-preserved
loop-i-preserved g c = λ j l m.
    let within : j ≤ c.loop-i.i = omega (arith, l) in
    elim (eq-or-lt_of_le within) [
      | inr earlier ↦ c.loop-i.invariant j earlier m
      | inl here ↦
          subst (λ k. is_rise (g.E.Arrivals.arrivals c.args.events.now) (slice_index c.args.places.now k) (slice_index c.args.places.now (k + 1)) ≡ true) (sym here)
          (elim c.else-i-places.branch [
            | else-i-places-via-then-i-places+else-not-is_rise w ↦ sym w.is_rise.ensures ∙ search rules
            | else-i-places-via-else-i-places w ↦ absurd (omega (arith, w.if-i-places.false, m, here))
          ])
    ]

pub returns : goal.returns
returns g c = λ _. rising_events (g.E.Arrivals.arrivals c.args.events.now) c.args.places.now
    (λ j m. c.loop-i.invariant j (omega (arith, m, c.loop-i-test.false)) m)
