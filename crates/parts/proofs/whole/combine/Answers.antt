use Rattle.std.proofs.Common.{map, subst, sym}
use Rattle.views.specs.declared.query.Query.TheVariants as query
use Rattle.parts.proofs.CombineLemmas.{Combines, conflicts_whole, days_whole, gaps_whole, kinds_whole, latest_whole}
use Rattle.parts.proofs.whole.combine.Goals as goal

pub returns-in-Cover-clause-combined : goal.returns-in-Cover-clause-combined
returns-in-Cover-clause-combined c =
    let answers = map (λ t. t.now) c.args.answers.now in
    let covers = map (λ t. t.now) c.args.covers.now in
    let r = c.combine_covers.result in
    let own : Combines query.Cover answers covers r = record { combined = λ p E held parts. c.combine_covers.ensures.combined p E parts; taken = λ p E held parts. c.combine_covers.ensures.taken p E parts } in
    (subst (λ q. Combines q answers covers r) (sym c.in-Cover.is) own).combined

pub returns-in-Cover-clause-taken : goal.returns-in-Cover-clause-taken
returns-in-Cover-clause-taken c =
    let answers = map (λ t. t.now) c.args.answers.now in
    let covers = map (λ t. t.now) c.args.covers.now in
    let r = c.combine_covers.result in
    let own : Combines query.Cover answers covers r = record { combined = λ p E held parts. c.combine_covers.ensures.combined p E parts; taken = λ p E held parts. c.combine_covers.ensures.taken p E parts } in
    (subst (λ q. Combines q answers covers r) (sym c.in-Cover.is) own).taken

pub returns-in-Shown-clause-combined : goal.returns-in-Shown-clause-combined
returns-in-Shown-clause-combined c =
    let answers = map (λ t. t.now) c.args.answers.now in
    let covers = map (λ t. t.now) c.args.covers.now in
    let r = c.combine_events.result in
    let own : Combines query.Shown answers covers r = record { combined = c.combine_events.ensures.combined; taken = c.combine_events.ensures.taken } in
    (subst (λ q. Combines q answers covers r) (sym c.in-Shown.is) own).combined

pub returns-in-Shown-clause-taken : goal.returns-in-Shown-clause-taken
returns-in-Shown-clause-taken c =
    let answers = map (λ t. t.now) c.args.answers.now in
    let covers = map (λ t. t.now) c.args.covers.now in
    let r = c.combine_events.result in
    let own : Combines query.Shown answers covers r = record { combined = c.combine_events.ensures.combined; taken = c.combine_events.ensures.taken } in
    (subst (λ q. Combines q answers covers r) (sym c.in-Shown.is) own).taken

pub returns-in-Conflicts-clause-combined : goal.returns-in-Conflicts-clause-combined
returns-in-Conflicts-clause-combined c =
    let answers = map (λ t. t.now) c.args.answers.now in
    let covers = map (λ t. t.now) c.args.covers.now in
    let r = c.combine_beside.result in
    let own : Combines query.Conflicts answers covers r = conflicts_whole answers covers r c.texts_tell_summaries.ensures c.text_tells_events.ensures c.combine_beside.ensures.combined c.combine_beside.ensures.refused in
    (subst (λ q. Combines q answers covers r) (sym c.in-Conflicts.is) own).combined

pub returns-in-Conflicts-clause-taken : goal.returns-in-Conflicts-clause-taken
returns-in-Conflicts-clause-taken c =
    let answers = map (λ t. t.now) c.args.answers.now in
    let covers = map (λ t. t.now) c.args.covers.now in
    let r = c.combine_beside.result in
    let own : Combines query.Conflicts answers covers r = conflicts_whole answers covers r c.texts_tell_summaries.ensures c.text_tells_events.ensures c.combine_beside.ensures.combined c.combine_beside.ensures.refused in
    (subst (λ q. Combines q answers covers r) (sym c.in-Conflicts.is) own).taken

pub returns-in-Latest-clause-combined : goal.returns-in-Latest-clause-combined
returns-in-Latest-clause-combined c =
    let answers = map (λ t. t.now) c.args.answers.now in
    let covers = map (λ t. t.now) c.args.covers.now in
    let r = c.combine_beside-in-Latest.result in
    let own : Combines query.Latest answers covers r = latest_whole answers covers r c.texts_tell_summaries.ensures c.text_tells_events.ensures c.combine_beside-in-Latest.ensures.combined c.combine_beside-in-Latest.ensures.refused in
    (subst (λ q. Combines q answers covers r) (sym c.in-Latest.is) own).combined

pub returns-in-Latest-clause-taken : goal.returns-in-Latest-clause-taken
returns-in-Latest-clause-taken c =
    let answers = map (λ t. t.now) c.args.answers.now in
    let covers = map (λ t. t.now) c.args.covers.now in
    let r = c.combine_beside-in-Latest.result in
    let own : Combines query.Latest answers covers r = latest_whole answers covers r c.texts_tell_summaries.ensures c.text_tells_events.ensures c.combine_beside-in-Latest.ensures.combined c.combine_beside-in-Latest.ensures.refused in
    (subst (λ q. Combines q answers covers r) (sym c.in-Latest.is) own).taken

pub returns-in-Kinds-clause-combined : goal.returns-in-Kinds-clause-combined
returns-in-Kinds-clause-combined c =
    let answers = map (λ t. t.now) c.args.answers.now in
    let covers = map (λ t. t.now) c.args.covers.now in
    let r = c.combine_kinds.result in
    let own : Combines query.Kinds answers covers r = kinds_whole answers covers r c.texts_tell_summaries.ensures c.exact_json_reads_back.ensures c.combine_kinds.ensures.combined c.combine_kinds.ensures.refused in
    (subst (λ q. Combines q answers covers r) (sym c.in-Kinds.is) own).combined

pub returns-in-Kinds-clause-taken : goal.returns-in-Kinds-clause-taken
returns-in-Kinds-clause-taken c =
    let answers = map (λ t. t.now) c.args.answers.now in
    let covers = map (λ t. t.now) c.args.covers.now in
    let r = c.combine_kinds.result in
    let own : Combines query.Kinds answers covers r = kinds_whole answers covers r c.texts_tell_summaries.ensures c.exact_json_reads_back.ensures c.combine_kinds.ensures.combined c.combine_kinds.ensures.refused in
    (subst (λ q. Combines q answers covers r) (sym c.in-Kinds.is) own).taken

pub returns-in-Days-clause-combined : goal.returns-in-Days-clause-combined
returns-in-Days-clause-combined c =
    let answers = map (λ t. t.now) c.args.answers.now in
    let covers = map (λ t. t.now) c.args.covers.now in
    let r = c.combine_days.result in
    let own : Combines query.Days answers covers r = days_whole answers covers r c.texts_tell_summaries.ensures c.exact_json_reads_back.ensures c.combine_days.ensures.combined c.combine_days.ensures.refused in
    (subst (λ q. Combines q answers covers r) (sym c.in-Days.is) own).combined

pub returns-in-Days-clause-taken : goal.returns-in-Days-clause-taken
returns-in-Days-clause-taken c =
    let answers = map (λ t. t.now) c.args.answers.now in
    let covers = map (λ t. t.now) c.args.covers.now in
    let r = c.combine_days.result in
    let own : Combines query.Days answers covers r = days_whole answers covers r c.texts_tell_summaries.ensures c.exact_json_reads_back.ensures c.combine_days.ensures.combined c.combine_days.ensures.refused in
    (subst (λ q. Combines q answers covers r) (sym c.in-Days.is) own).taken

pub returns-in-Gaps-clause-combined : goal.returns-in-Gaps-clause-combined
returns-in-Gaps-clause-combined c =
    let answers = map (λ t. t.now) c.args.answers.now in
    let covers = map (λ t. t.now) c.args.covers.now in
    let r = c.combine_gaps.result in
    let own : Combines query.Gaps answers covers r = gaps_whole answers covers r c.texts_tell_summaries.ensures c.combine_gaps.ensures.combined c.combine_gaps.ensures.refused in
    (subst (λ q. Combines q answers covers r) (sym c.in-Gaps.is) own).combined

pub returns-in-Gaps-clause-taken : goal.returns-in-Gaps-clause-taken
returns-in-Gaps-clause-taken c =
    let answers = map (λ t. t.now) c.args.answers.now in
    let covers = map (λ t. t.now) c.args.covers.now in
    let r = c.combine_gaps.result in
    let own : Combines query.Gaps answers covers r = gaps_whole answers covers r c.texts_tell_summaries.ensures c.combine_gaps.ensures.combined c.combine_gaps.ensures.refused in
    (subst (λ q. Combines q answers covers r) (sym c.in-Gaps.is) own).taken
