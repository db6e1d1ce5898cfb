use Rattle.std.proofs.Common.{◌≡◌, map, ap, ap₂, ◌∙◌, sym}
use Rattle.std.specs.Option.{option_map_or}
use Rattle.std.specs.BTreeSet.{insert_key}
use Rattle.attributes.specs.Event.{text}
use Rattle.block_digests.specs.Number.{number_or_0}
use Rattle.block_digests.specs.steps.Rows.{numbered_text_cmp}
use Rattle.block_digests.proofs.RowLemmas.{row_comes, row_stays, seen_key}
use Rattle.block_digests.proofs.block.rows.Goals.{then-is_in_block+in_ok-insert, else-is_in_block}
use Rattle.block_digests.proofs.block.rows.Goals as goal

pub loop-i-preserved : goal.loop-i-preserved
loop-i-preserved c =
    let E = c.args.events.now in
    let e = c.at-event.result.now in
    elim c.if-is_in_block.branch [
      | then-is_in_block+in_ok-insert w ↦
          let number : w.number-then-is_in_block.result ≡ number_or_0 e = w.number-then-is_in_block.ensures.value ∙ sym (ap (λ o. option_map_or (λ n. n) o 0) w.number.ensures) in
          let own : w.text.result.now ≡ text e = w.text.ensures.text ∙ ap text w.event.ensures in
          ap (λ s. map (λ r. (r.0, r.1.now)) s.keys) w.set-is
          ∙ ap (map (λ r. (r.0, r.1.now))) w.in_ok-insert.ensures.keys
          ∙ seen_key (λ r. (r.0, r.1.now)) numbered_text_cmp c.loop-i.set.keys (w.number-then-is_in_block.result, w.text.result)
          ∙ ap₂ (λ ks r. insert_key numbered_text_cmp ks r) c.loop-i.invariant (ap₂ (λ n t. (n, t)) number own)
          ∙ row_comes E c.args.source.now c.args.k c.loop-i.i e c.at-event.ensures (sym w.if-is_in_block.ensures)
      | else-is_in_block w ↦
          ap (λ s. map (λ r. (r.0, r.1.now)) s.keys) w.set-is ∙ c.loop-i.invariant
          ∙ row_stays E c.args.source.now c.args.k c.loop-i.i e c.at-event.ensures (sym w.if-is_in_block.ensures)
    ]
