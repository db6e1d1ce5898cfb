use Rattle.std.proofs.Common.{rules, ◌≡◌, ◌++◌, ◌∷◌, [], List, ℕ, take, ap, ap₂, sym, refl, subst, ◌∙◌}
use Rattle.std.proofs.lemmas.List.{take_all}
use Rattle.sha2.specs.Hashers.{Holds256}
use Rattle.sha2.specs.Sha256.{sha256}
use Rattle.attributes.specs.Event.{text}
use Rattle.block_digests.specs.Block.{lines}
use Rattle.block_digests.specs.steps.Mended.{events_at}
use Rattle.block_digests.proofs.PlaceLemmas.{events_missing, line_placed, no_lines}
use Rattle.block_digests.proofs.blocks.digest_as_they_stand.Goals.{in-Some, in_default}
use Rattle.block_digests.proofs.blocks.digest_as_they_stand.Goals as goal

pub loop-i-init : goal.loop-i-init
loop-i-init g c = ([], (c.new-hasher.ensures, no_lines))

pub loop-i-preserved : goal.loop-i-preserved
loop-i-preserved g c =
    let A = g.E.Arrivals.arrivals c.args.events.now in
    let m = c.loop-i.invariant.0 in
    elim c.match-arrival.branch [
      | in-Some w ↦
          let e = w.in-Some.event.now in
          let own : w.text.result.now ≡ text e = w.text.ensures.text ∙ ap text w.event.ensures in (
            (m ++ w.text.result.now) ++ 10 ∷ [],
            (
              subst (λ h. Holds256 h ((m ++ w.text.result.now) ++ 10 ∷ [])) (sym w.hasher-is) (w.update-in-Some.ensures (m ++ w.text.result.now) (w.update.ensures m c.loop-i.invariant.1.0)),
              ap₂ (λ x t. (x ++ t) ++ 10 ∷ []) c.loop-i.invariant.1.1 own ∙ line_placed A c.args.places.now c.loop-i.i e c.loop-i-test.true (sym w.in-Some.ensures),
            ),
          )
      | in_default w ↦ (
        m,
        (
          subst (λ h. Holds256 h m) (sym w.hasher-is) c.loop-i.invariant.1.0,
          c.loop-i.invariant.1.1 ∙ ap lines (events_missing A c.args.places.now c.loop-i.i c.loop-i-test.true (sym w.in_default.ensures)),
        ),
      )
    ]

pub returns : goal.returns
returns g c =
    let m = c.loop-i.invariant.0 in
    c.finalize.ensures m c.loop-i.invariant.1.0
    ∙ ap sha256 (c.loop-i.invariant.1.1 ∙ ap (λ ps. lines (events_at (g.E.Arrivals.arrivals c.args.events.now) ps)) (take_all c.loop-i.i c.args.places.now c.loop-i-test.false))
