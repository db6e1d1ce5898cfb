use Rattle.std.proofs.Common.{◌∙◌, ap, option_map, sym}
use Rattle.std.specs.Prelude.{codes}
use Rattle.std.proofs.lemmas.Result.{IfOk-weaker}
use Rattle.serde_json.specs.Find.{as_array, get}
use Rattle.serde_json.specs.View.{items_view, view}
use Rattle.parts.specs.Conflict.{conflict_data}
use Rattle.parts.proofs.ConflictLineLemmas.{conflict_is, events_at}
use Rattle.parts.proofs.ReadLemmas.{no_value, none_some, some_one, value_is}
use Rattle.parts.proofs.events.read_conflict.Goals as goal

pub returns-in_default : goal.returns-in_default
returns-in_default c k all line = absurd (no_value c.args.line.now c.in_ok-value.field-0 c.in_ok-value.ensures (conflict_data k) (conflict_is k c.args.line.now all line) c.in_default.is)

pub returns-in_default-get : goal.returns-in_default-get
returns-in_default-get c k all line =
    let is = value_is c.args.line.now c.in_ok-value.field-0 c.in_ok-value.ensures (conflict_data k) (conflict_is k c.args.line.now all line) c.in-Some.value c.in-Some.is in
    absurd (none_some _ (sym (ap (option_map (λ v. view v.now)) c.in_default-get.is) ∙ c.get.ensures ∙ ap (get (codes "events")) is ∙ events_at k))

pub returns-in_default-as_array : goal.returns-in_default-as_array
returns-in_default-as_array c k all line =
    let is = value_is c.args.line.now c.in_ok-value.field-0 c.in_ok-value.ensures (conflict_data k) (conflict_is k c.args.line.now all line) c.in-Some.value c.in-Some.is in
    let found = some_one (view c.in-Some-get.events.now) _ (sym (ap (option_map (λ v. view v.now)) c.in-Some-get.is) ∙ c.get.ensures ∙ ap (get (codes "events")) is ∙ events_at k) in
    absurd (none_some _ (sym (ap (option_map (λ v. items_view v.now.items)) c.in_default-as_array.is) ∙ c.as_array.ensures ∙ ap as_array found))

pub returns : goal.returns
returns c =
    IfOk-weaker c.read_items.result _ _
    (λ o reads k all line.
    let is = value_is c.args.line.now c.in_ok-value.field-0 c.in_ok-value.ensures (conflict_data k) (conflict_is k c.args.line.now all line) c.in-Some.value c.in-Some.is in
    let found = some_one (view c.in-Some-get.events.now) _ (sym (ap (option_map (λ v. view v.now)) c.in-Some-get.is) ∙ c.get.ensures ∙ ap (get (codes "events")) is ∙ events_at k) in
    let items = some_one (items_view c.in-Some-as_array.items.now.items) _ (sym (ap (option_map (λ v. items_view v.now.items)) c.in-Some-as_array.is) ∙ c.as_array.ensures ∙ ap as_array found) in
    reads k.events all (ap items_view c.as_slice.ensures.value ∙ items)) c.read_items.ensures
