use Rattle.std.proofs.Common.{map, [], ◌∷◌, None, ap}
use Rattle.std.proofs.lemmas.Result.{IfOk-weaker, IfErr-weaker}
use Rattle.serde_json.specs.Data.{object}
use Rattle.serde_json.specs.View.{view, members_view}
use Rattle.serde_json.specs.declared.value.Value.{Array, Object}
use Rattle.event_json.specs.steps.Walk.{bad_or}
use Rattle.event_json.proofs.WalkLemmas.{spells, no_spelling, candidates-Object, candidates-Array}
use Rattle.event_json.proofs.read.read_value.Goals as goal

pub returns-in-Object-clause-ok : goal.returns-in-Object-clause-ok
returns-in-Object-clause-ok c =
    let value = object (members_view c.in-Object.members.entries) in
    rw c.in-Object.is (IfOk-weaker c.read_single.result _ _ (λ l h. spells (view (Object c.in-Object.members)) (value ∷ []) l (candidates-Object c.in-Object.members) (ap (λ o. bad_or 0 o None) h.0) h.1) c.read_single.ensures.ok)

pub returns-in-Object-clause-refused : goal.returns-in-Object-clause-refused
returns-in-Object-clause-refused c =
    let value = object (members_view c.in-Object.members.entries) in
    rw c.in-Object.is (IfErr-weaker c.read_single.result _ _ (λ f h other. no_spelling (view (Object c.in-Object.members)) (value ∷ []) f (candidates-Object c.in-Object.members) (h other)) c.read_single.ensures.refused)

pub returns-in-Array-clause-ok : goal.returns-in-Array-clause-ok
returns-in-Array-clause-ok c =
    let items = c.in-Array.items in
    rw c.in-Array.is (IfOk-weaker c.read_batch.result _ _ (λ l h. spells (view (Array items)) (map view items.items) l (candidates-Array items) h.0 h.1) c.read_batch.ensures.ok)

pub returns-in-Array-clause-refused : goal.returns-in-Array-clause-refused
returns-in-Array-clause-refused c =
    let items = c.in-Array.items in
    rw c.in-Array.is (IfErr-weaker c.read_batch.result _ _ (λ f h other. no_spelling (view (Array items)) (map view items.items) f (candidates-Array items) (h other)) c.read_batch.ensures.refused)
