use Rattle.std.proofs.Common.{◌∙◌, ap₂, List, sym}
use Rattle.attributes.specs.Event.{EventValue}
use Rattle.inbox.specs.KeyOrder.{key_cmp}
use Rattle.inbox.specs.Ordered.{append_new}
use Rattle.durable_site.proofs.CountLemmas.{front_counted, rest_is_some}
use Rattle.durable_site.proofs.owed.count.Goals as goal

pub returns-in-Err-clause-all : goal.returns-in-Err-clause-all
returns-in-Err-clause-all c =
    ap₂ (λ (A L : List EventValue). append_new key_cmp A L) c.in-Err.ensures.short c.in-Err.ensures.rest
    ∙ front_counted c.args.site.now c.args.batch.now c.in-Err.field-0.taken

pub returns-in-Err-clause-short : goal.returns-in-Err-clause-short
returns-in-Err-clause-short c none = rest_is_some c.args.batch.now c.in-Err.field-0.taken c.in-Err.ensures.short_taken (sym c.in-Err.ensures.rest ∙ none)
