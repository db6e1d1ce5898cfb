use Rattle.std.proofs.Common.{subst, refl, ap}
use Rattle.coverage.specs.SummaryText.{summary_text}
use Rattle.inbox.specs.Sets.{set_of}
use Rattle.site.specs.Law.{AreAlike}
use Rattle.site.proofs.laws.sites_answer_alike.Goals as goal

pub returns : goal.returns
returns c = λ A B a b same.
    subst (λ F. AreAlike (set_of A) F) (c.sets_are_members.ensures.same A B a b same) (record {
      questions = λ query text other p q. c.answers_are_alike.ensures.one query (set_of A) text other p q;
      summaries = λ s t p q. c.sets_have_one_summary.ensures (set_of A) s t p q;
      texts = λ s t p q. ap summary_text (c.sets_have_one_summary.ensures (set_of A) s t p q);
      deltas = λ peer. refl;
      delta_pages = λ peer from limit. refl;
      pages = λ from limit. refl;
    })
