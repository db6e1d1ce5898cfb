use Rattle.std.proofs.Common.{◌≡◌, ◌∙◌, List, IfOk, Some, sym, ap, subst}
use Rattle.sqlite.specs.Held.{state}
use Rattle.attributes.specs.Event.{EventValue}
use Rattle.inbox.specs.Sets.{set_of}
use Rattle.block_digests.specs.Lacking.{lacking}
use Rattle.databases.specs.Held.{Holds}
use Rattle.databases.specs.Pages.{pages_text}
use Rattle.stream_laws.proofs.ShellLemmas.{each_ok, lacking_events}
use Rattle.stream_laws.proofs.shell.send.Goals as goal

pub returns : goal.returns
returns g c clean_a clean_b clean =
    let a = (state g.S.Store c.args.asked).now in
    let b = (state g.T.Store c.args.other).now in
    let is = c.in-Ok.is in
    let pages = c.compare-asked.ensures clean_a clean_b in
    let text = c.in-Ok-text_of.ensures in
    let input = c.as_slice-input.ensures.value in
    let same : (state g.S.Store c.args.taking).now ≡ a = c.requires in
    let shown : (A B : List EventValue) → Holds a A → Holds b B → c.in-Ok.pages ≡ lacking (set_of B) (set_of A) =
    subst (λ r. IfOk r (λ ps. (A B : List EventValue) → Holds a A → Holds b B → ps ≡ lacking (set_of B) (set_of A))) is pages in
    each_ok c.follow_pages-conn.result.outcome _ _ (c.follow_pages-conn.ensures clean) (λ faults f A B ha hb.
    let events = lacking_events b A B hb in
    f (lacking (set_of B) (set_of A)) A events.0 events.1 (ap Some (input ∙ text ∙ ap pages_text (shown A B ha hb))) (subst (λ x. Holds x A) (sym same) ha))
