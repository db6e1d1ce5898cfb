use Rattle.std.proofs.Common.{◌≡◌, ◌∙◌, List, IfOk, subst}
use Rattle.sqlite.specs.Held.{state}
use Rattle.attributes.specs.Event.{EventValue}
use Rattle.inbox.specs.Sets.{set_of}
use Rattle.block_digests.specs.Lacking.{lacking}
use Rattle.databases.specs.Held.{Holds, ShowsLacking, ShowsSummary}
use Rattle.databases.specs.Print.{WithoutLineEnd}
use Rattle.stream_laws.proofs.ShellLemmas.{each_ok, lacked}
use Rattle.stream_laws.proofs.shell.compare.Goals as goal

pub returns : goal.returns
returns g c clean_a clean_b =
    let a = (state g.S.Store c.args.asked).now in
    let b = (state g.T.Store c.args.other).now in
    let shows = c.summary-asked.ensures.did.shown clean_a in
    let is = c.in-Ok.is in
    let value = c.as_bytes.ensures.value in
    let own = c.as_str.ensures in
    let without = c.summary_of.ensures in
    let text = c.in-Ok-of_text.ensures.text in
    let form = c.in-Ok-of_text.ensures.summary in
    let shown : ShowsSummary a c.in-Ok.line = subst (λ r. IfOk r (ShowsSummary a)) is shows in
    let without_end : WithoutLineEnd c.in-Ok.line c.summary_of.result.now = subst (λ l. WithoutLineEnd l c.summary_of.result.now) (value ∙ own) without in
    each_ok c.delta_pages-other.result.outcome (ShowsLacking c.in-Ok-of_text.peer b)
    (λ pages. (A B : List EventValue) → Holds a A → Holds b B → pages ≡ lacking (set_of B) (set_of A))
    (c.delta_pages-other.ensures.did.shown clean_b)
    (λ pages lacks A B ha hb.
    lacks B hb
    ∙ lacked c.summaries_stand_for_sets.ensures.lacking c.texts_tell_summaries.ensures A B c.in-Ok.line c.summary_of.result.now c.in-Ok-of_text.peer (shown A ha) without_end text form)
