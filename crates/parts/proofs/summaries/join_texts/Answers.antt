use Rattle.std.proofs.Common.{length, map, subst}
use Rattle.parts.specs.Combined.{AreApart}
use Rattle.parts.specs.Summaries.{IsJoined}
use Rattle.parts.proofs.SummaryLemmas.{whole}
use Rattle.parts.proofs.summaries.join_texts.Goals as goal

pub returns-clause-combined : goal.returns-clause-combined
returns-clause-combined c p E given =
    let ss = c.in_ok-read.read.items in
    let all = c.in_ok-all.all in
    let joined = subst (λ l. IsJoined l (length l) all) c.deref-2.ensures.value c.in_ok-all.ensures.joined in (
      all,
      whole c.texts_tell_summaries.ensures p E (map (λ t. t.now) c.args.summaries.now) given ss c.in_ok-read.ensures.read all c.in_ok-all.ensures.second joined,
      c.in_ok-print_summary.ensures,
    )

pub returns-clause-apart : goal.returns-clause-apart
returns-clause-apart c = (c.in_ok-read.read.items, c.in_ok-read.ensures.read, subst AreApart c.deref.ensures.value c.in_ok-check_apart.ensures.apart)
