use Rattle.std.proofs.Common.{rules, length, refl, sym, subst, arith}
use Rattle.std.specs.List.{AllByRecursion}
use Rattle.std.proofs.lemmas.Option.{slice_get_read}
use Rattle.std.proofs.lemmas.Result.{IfOk-weaker}
use Rattle.parts.specs.Summaries.{IsJoined, IsSecond}
use Rattle.parts.proofs.SummaryLemmas.{all_first, all_rest, joined_halves, joined_one, none_joined}
use Rattle.parts.proofs.WholeLemmas.{all_at}
use Rattle.parts.proofs.summaries.+halves.Goals as goal

pub join_all-requires : goal.join_all-requires
join_all-requires t c = (search rules, all_first c.split_at.result.0.now c.split_at.result.1.now (subst (AllByRecursion IsSecond) c.split_at.ensures.by_index.0 c.requires))

pub join_all-requires-in_default : goal.join_all-requires-in_default
join_all-requires-in_default t c = (search rules, all_rest c.split_at.result.0.now c.split_at.result.1.now (subst (AllByRecursion IsSecond) c.split_at.ensures.by_index.0 c.requires))

pub returns-in-0-clause-joined : goal.returns-in-0-clause-joined
returns-in-0-clause-joined t c = none_joined c.args.summaries.now c.empty_digested.result c.in-0.is c.empty_digested.ensures

pub returns-in-1-clause-second : goal.returns-in-1-clause-second
returns-in-1-clause-second t c =
    let all = c.args.summaries.now in
    let x = c.index-summaries-0.result in
    let there = slice_get_read all (length all) 0 x refl (omega (arith, c.in-1.is)) c.index-summaries-0.is in
    IfOk-weaker c.copy.result _ _ (λ r same. subst IsSecond (sym same) (all_at IsSecond all 0 x c.requires there)) c.copy.ensures.copied

pub returns-in-1-clause-joined : goal.returns-in-1-clause-joined
returns-in-1-clause-joined t c =
    let all = c.args.summaries.now in
    IfOk-weaker c.copy.result _ _ (λ r same. subst (IsJoined all (length all)) (sym same) (joined_one all c.index-summaries-0.result c.in-1.is c.index-summaries-0.is)) c.copy.ensures.copied

pub returns-in_ok-all-in_default-clause-joined : goal.returns-in_ok-all-in_default-clause-joined
returns-in_ok-all-in_default-clause-joined t c =
    let one = c.in_ok-left-in_default in
    let two = c.in_ok-right-in_default in
    let told = c.in_ok-all-in_default.ensures in
    joined_halves two.right one.left c.in_ok-all-in_default.all two.ensures.second.0 one.ensures.second.0 told.numbers (told.digests one.ensures.second.1 two.ensures.second.1)
    c.args.summaries.now c.split_at.result.0.now c.split_at.result.1.now c.split_at.ensures.by_index.0 one.ensures.joined two.ensures.joined
