use Rattle.std.proofs.Common.{◌≡◌, map, ap, ap₂, ◌∙◌, sym}
use Rattle.std.specs.Option.{option_map_or}
use Rattle.std.specs.BTreeSet.{insert_key}
use Rattle.attributes.specs.Event.{text}
use Rattle.block_digests.specs.Number.{number_or_0}
use Rattle.block_digests.specs.steps.Rows.{numbered_text_cmp}
use Rattle.block_digests.proofs.RowLemmas.{seen_key}
use Rattle.block_digests.proofs.PlaceLemmas.{row_missing, row_placed}
use Rattle.block_digests.proofs.blocks.rows_at.Goals.{in-Some+in_ok-insert, in_default}
use Rattle.block_digests.proofs.blocks.rows_at.Goals as goal

pub loop-i-preserved : goal.loop-i-preserved
loop-i-preserved g c =
    let A = g.E.Arrivals.arrivals c.args.events.now in
    elim c.match-arrival.branch [
      | in-Some+in_ok-insert w ↦
          let e = w.in-Some.event.now in
          let number : w.number-in-Some.result ≡ number_or_0 e = w.number-in-Some.ensures.value ∙ sym (ap (λ o. option_map_or (λ n. n) o 0) w.number.ensures) in
          let own : w.text.result.now ≡ text e = w.text.ensures.text ∙ ap text w.event.ensures in
          ap (λ s. map (λ r. (r.0, r.1.now)) s.keys) w.set-is
          ∙ ap (map (λ r. (r.0, r.1.now))) w.in_ok-insert.ensures.keys
          ∙ seen_key (λ r. (r.0, r.1.now)) numbered_text_cmp c.loop-i.set.keys (w.number-in-Some.result, w.text.result)
          ∙ ap₂ (λ ks r. insert_key numbered_text_cmp ks r) c.loop-i.invariant (ap₂ (λ n t. (n, t)) number own)
          ∙ row_placed A c.args.places.now c.loop-i.i e c.loop-i-test.true (sym w.in-Some.ensures)
      | in_default w ↦
          ap (λ s. map (λ r. (r.0, r.1.now)) s.keys) w.set-is ∙ c.loop-i.invariant
          ∙ row_missing A c.args.places.now c.loop-i.i c.loop-i-test.true (sym w.in_default.ensures)
    ]
