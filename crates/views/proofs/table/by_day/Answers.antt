use Rattle.std.proofs.Common.{◌≡◌, ◌+◌, ◌^◌, rules, ◌<◌, ◌++◌, [], ◌∷◌, true, false, filter, map, take, refl, sym, ap, ◌∙◌, arith, subst}
use Rattle.std.specs.Prelude.{filter_map, Some, None}
use Rattle.std.specs.List.{cons_option}
use Rattle.std.specs.Option.{option_and_then, option_map}
use Rattle.std.proofs.lemmas.Cmp.{on_total}
use Rattle.std.proofs.lemmas.List.{append-nil}
use Rattle.std.proofs.lemmas.List.Elements.{filter_map-append}
use Rattle.inbox.specs.Kept.{events}
use Rattle.inbox.specs.Shown.{is_shown}
use Rattle.views.specs.Tally.{day_cmp, kind_and_day, tally}
use Rattle.views.proofs.TableLemmas.{before-le, count_step}
use Rattle.views.proofs.OrderLemmas.{day_cmp_total}
use Rattle.views.proofs.StepLemmas.{filter_kept, filter_left_out, item_at, length_filter_map_filter_take}
use Rattle.views.proofs.table.by_day.Goals.{in-Some+then-is_shown+in_ok-count, in-Some+else-is_shown, in_default}
use Rattle.views.proofs.table.by_day.Goals as goal

pub count-requires-clause-ordered : goal.count-requires-clause-ordered
count-requires-clause-ordered c = on_total (λ k. (k.0.now, k.1)) day_cmp_total

pub count-requires-clause-fits : goal.count-requires-clause-fits
count-requires-clause-fits c =
    let E = events c.args.inbox.now in
    let i = c.loop-i.i in
    let room : c.len-i-end.result < 2 ^ 64 = search rules in
    omega (
      arith,
      before-le day_cmp_total (λ k. (k.0.now, k.1)) c.loop-i.table.entries c.in-Some.key (filter_map kind_and_day (filter (is_shown E) (take i E))) c.loop-i.invariant.0,
      length_filter_map_filter_take kind_and_day (is_shown E) E i,
      c.loop-i-test.true,
      room,
    )

pub loop-i-preserved : goal.loop-i-preserved
loop-i-preserved c =
    let E = events c.args.inbox.now in
    let i = c.loop-i.i in
    let before = filter (is_shown E) (take i E) in
    let keys = filter_map kind_and_day before in
    let here = item_at E i (subst (λ n. i < n) c.len-i-end.ensures c.loop-i-test.true) in
    let own : option_map (λ k. (k.0.now, k.1)) c.loop-i.ahead ≡ kind_and_day here.0 = c.loop-i.invariant.1 ∙ ap (option_and_then kind_and_day) here.1 in
    let more : is_shown E here.0 ≡ true → filter_map kind_and_day (filter (is_shown E) (take (i + 1) E)) ≡ keys ++ cons_option (kind_and_day here.0) [] =
    λ is. ap (filter_map kind_and_day) (filter_kept (is_shown E) E i here.0 here.1 is) ∙ filter_map-append kind_and_day before (here.0 ∷ []) in
    let less : is_shown E here.0 ≡ false → filter_map kind_and_day (filter (is_shown E) (take (i + 1) E)) ≡ keys =
    λ is. ap (filter_map kind_and_day) (filter_left_out (is_shown E) E i here.0 here.1 is) in
    let table = elim c.match-found.branch as (λ _. map (λ e. ((e.0.0.now, e.0.1), e.1)) c.match-found.table.entries ≡ tally day_cmp (filter_map kind_and_day (filter (is_shown E) (take (i + 1) E)))) [
      | in-Some+then-is_shown+in_ok-count w ↦
          ap (λ t. map (λ e. ((e.0.0.now, e.0.1), e.1)) t.entries) w.table-is
          ∙ ap (map (λ e. ((e.0.0.now, e.0.1), e.1))) w.in_ok-count.ensures
          ∙ count_step day_cmp_total (λ k. (k.0.now, k.1)) c.loop-i.table.entries w.in-Some.key keys c.loop-i.invariant.0
          ∙ ap (λ m. tally day_cmp (keys ++ cons_option m [])) (sym (ap (option_map (λ k. (k.0.now, k.1))) w.in-Some.is) ∙ own)
          ∙ ap (tally day_cmp) (sym (more (sym (w.is_shown.ensures here.0 here.1) ∙ w.if-is_shown.true)))
      | in-Some+else-is_shown w ↦
          ap (λ t. map (λ e. ((e.0.0.now, e.0.1), e.1)) t.entries) w.table-is ∙ c.loop-i.invariant.0
          ∙ ap (tally day_cmp) (sym (less (sym (w.is_shown.ensures here.0 here.1) ∙ w.if-is_shown.false)))
      | in_default w ↦
          let none : kind_and_day here.0 ≡ None = sym own ∙ ap (option_map (λ k. (k.0.now, k.1))) w.in_default.is in
          ap (λ t. map (λ e. ((e.0.0.now, e.0.1), e.1)) t.entries) w.table-is ∙ c.loop-i.invariant.0
          ∙ ap (tally day_cmp) (sym (elim (is_shown E here.0) as (λ b. is_shown E here.0 ≡ b → filter_map kind_and_day (filter (is_shown E) (take (i + 1) E)) ≡ keys) [
            | true ↦ λ is. more is ∙ ap (λ m. keys ++ cons_option m []) none ∙ append-nil keys
            | false ↦ λ is. less is
          ] refl))
    ] in
    (table, c.kind_and_day_at-ahead-in-loop-i.ensures)
