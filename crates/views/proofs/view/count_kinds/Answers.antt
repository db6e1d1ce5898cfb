use Rattle.std.proofs.Common.{◌≡◌, ◌+◌, ◌^◌, rules, ◌<◌, ◌++◌, [], ◌∷◌, filter, map, take, sym, ap, ◌∙◌, arith, subst, unwrap_or, Some, None, is_some}
use Rattle.std.specs.Option.{option_copied, option_map}
use Rattle.std.proofs.lemmas.Cmp.{nat_list_cmp_total, on_total}
use Rattle.std.proofs.lemmas.List.{map-append}
use mathlib.Core.Bool.{true≢false}
use Rattle.attributes.specs.Event.{kind_of}
use Rattle.attributes.specs.Bytes.{byte_cmp}
use Rattle.inbox.specs.Kept.{events}
use Rattle.inbox.specs.Shown.{is_shown}
use Rattle.views.specs.Tally.{tally}
use Rattle.views.proofs.TableLemmas.{before-le, count_step}
use Rattle.views.proofs.StepLemmas.{filter_kept, filter_left_out, item_at, length_map_filter_take}
use Rattle.views.proofs.view.count_kinds.Goals.{in-Some+then-is_shown+in_ok-count, in-Some+else-is_shown, in_default}
use Rattle.views.proofs.view.count_kinds.Goals as goal

pub count-requires-clause-ordered : goal.count-requires-clause-ordered
count-requires-clause-ordered c = on_total (λ b. b.now) nat_list_cmp_total

pub count-requires-clause-fits : goal.count-requires-clause-fits
count-requires-clause-fits c =
    let E = events c.args.inbox.now in
    let i = c.loop-i.i in
    let room : c.len-i-end.result < 2 ^ 64 = search rules in
    omega (
      arith,
      before-le nat_list_cmp_total (λ b. b.now) c.loop-i.table.entries c.in-Some.kind (map kind_of (filter (is_shown E) (take i E))) c.loop-i.invariant.0,
      length_map_filter_take kind_of (is_shown E) E i,
      c.loop-i-test.true,
      room,
    )

pub loop-i-preserved : goal.loop-i-preserved
loop-i-preserved c =
    let E = events c.args.inbox.now in
    let i = c.loop-i.i in
    let before = filter (is_shown E) (take i E) in
    let here = item_at E i (subst (λ n. i < n) c.len-i-end.ensures c.loop-i-test.true) in
    let kind : option_copied c.loop-i.ahead ≡ Some (kind_of here.0) = c.loop-i.invariant.1 ∙ ap (option_map kind_of) here.1 in
    let table = elim c.match-found.branch as (λ _. map (λ e. (e.0.now, e.1)) c.match-found.table.entries ≡ tally byte_cmp (map kind_of (filter (is_shown E) (take (i + 1) E)))) [
      | in-Some+then-is_shown+in_ok-count w ↦
          let kept = filter_kept (is_shown E) E i here.0 here.1 (sym (w.is_shown.ensures here.0 here.1) ∙ w.if-is_shown.true) in
          ap (λ t. map (λ e. (e.0.now, e.1)) t.entries) w.table-is
          ∙ ap (map (λ e. (e.0.now, e.1))) w.in_ok-count.ensures
          ∙ count_step nat_list_cmp_total (λ b. b.now) c.loop-i.table.entries w.in-Some.kind (map kind_of before) c.loop-i.invariant.0
          ∙ ap (λ k. tally byte_cmp (map kind_of before ++ k ∷ [])) (ap (λ o. unwrap_or o []) (sym (ap option_copied w.in-Some.is) ∙ kind))
          ∙ ap (tally byte_cmp) (sym (ap (map kind_of) kept ∙ map-append kind_of before (here.0 ∷ [])))
      | in-Some+else-is_shown w ↦
          ap (λ t. map (λ e. (e.0.now, e.1)) t.entries) w.table-is ∙ c.loop-i.invariant.0
          ∙ ap (λ es. tally byte_cmp (map kind_of es)) (sym (filter_left_out (is_shown E) E i here.0 here.1 (sym (w.is_shown.ensures here.0 here.1) ∙ w.if-is_shown.false)))
      | in_default w ↦ absurd (true≢false (sym (ap is_some kind) ∙ ap (λ o. is_some (option_copied o)) w.in_default.is))
    ] in
    (table, c.kind_at-ahead-in-loop-i.ensures)
