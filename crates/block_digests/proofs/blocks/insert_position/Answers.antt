use Rattle.std.proofs.Common.{rules, ap, ap₂, bytes_eq, sym, ◌∙◌, ◌≡◌, ℕ, List, Some, cond}
use Rattle.std.specs.Option.{option_and_then, option_copied_mut}
use Rattle.std.specs.BTreeMap.{get, get_by_text, is_at}
use Rattle.std.specs.Map.{lookup, update}
use Rattle.std.specs.Ordering.{nat_cmp}
use Rattle.std.specs.String.{string_bytes}
use Rattle.std.proofs.lemmas.Map.Text.{btree_map_updates_text}
use Rattle.std.proofs.lemmas.Result.{err_from_is_err_and}
use Rattle.block_digests.specs.steps.Index.{position}
use Rattle.block_digests.proofs.IndexLemmas.{placed, position_is, unplaced}
use Rattle.block_digests.proofs.blocks.insert_position.Goals as goal

pub returns-in_err-insert-clause-err : goal.returns-in_err-insert-clause-err
returns-in_err-insert-clause-err c =
    let old = c.args.index.now in
    let source = c.args.source.now in
    let inner = c.insert.new.self in
    let new = c.get_mut.follows.lender inner in
    let same : (j : ℕ) → get nat_cmp inner j ≡ position old source j =
    λ j. ap (lookup (is_at (nat_cmp j))) c.in_err-insert.ensures.err ∙ sym (position_is old source j ∙ ap (option_and_then (λ m. get nat_cmp m j)) (sym c.in-Some.ensures.value)) in
    let all : (s : List ℕ) (j : ℕ) → position new s j ≡ position old s j = unplaced old new source inner (btree_map_updates_text source old new _ ((c.get_mut.follows.holds inner).3 (search rules))) same in
    rw (err_from_is_err_and c.from_residual.result c.from_residual.ensures.1).1 all

pub returns-in-Some-clause-ok : goal.returns-in-Some-clause-ok
returns-in-Some-clause-ok c =
    let old = c.args.index.now in
    let source = c.args.source.now in
    let inner = c.insert.new.self in
    let new = c.get_mut.follows.lender inner in
    placed old new source c.args.k c.args.i inner (btree_map_updates_text source old new _ ((c.get_mut.follows.holds inner).3 (search rules)))
    (λ j. c.in_ok-insert.ensures.updates.0 j ∙ ap (λ o. cond (is_at (nat_cmp c.args.k) j) (Some c.args.i) o) (sym (position_is old source j ∙ ap (option_and_then (λ m. get nat_cmp m j)) (sym c.in-Some.ensures.value))))

pub returns-clause-ok : goal.returns-clause-ok
returns-clause-ok c =
    let old = c.args.index.now in
    let source = c.args.source.now in
    let inner = c.insert-2.new.self in
    let new = c.insert-3.new.self in
    let none = sym c.get_mut.ensures.value ∙ ap option_copied_mut c.in_default.is in
    placed old new source c.args.k c.args.i inner
    (λ cs. btree_map_updates_text (string_bytes c.in_ok-key.key) c.get_mut.follows.lender-at-none new (Some inner) c.in_ok-insert-3.ensures.updates cs
    ∙ ap₂ (λ m b. update bytes_eq (get_by_text m) b (Some inner) cs) c.get_mut.follows.holds-at-none c.in_ok-key.ensures.ok)
    (λ j. c.in_ok-insert-2.ensures.updates.0 j ∙ ap (λ o. cond (is_at (nat_cmp c.args.k) j) (Some c.args.i) o) (ap (λ l. lookup (is_at (nat_cmp j)) l) c.new-first.ensures.empty ∙ sym (position_is old source j ∙ ap (option_and_then (λ m. get nat_cmp m j)) none)))
