use Rattle.std.proofs.Common.{◌==◌, ◌||◌, not, List, ℕ, rules, sym, ap, ap₂, ◌∙◌, arith}
use Rattle.std.proofs.lemmas.Result.{err_from_is_err_and}
use Rattle.coverage.specs.Intervals.{Interval, holds}
use Rattle.coverage.proofs.InsertLemmas.{StartsAt, EndsAt, Joins, starts_alone, starts_left, starts_apart, ends_at, joins_made, joins-canonical, joins-members, already}
use Rattle.coverage.proofs.MapLemmas.{found-holds}
use Rattle.coverage.proofs.intervals.Intervals.insert.Goals.{in-Some+else-n-last+then-last-n, in-Some+else-n-last+else-last-n, in_default}
use Rattle.coverage.proofs.intervals.Intervals.insert.Goals as goal

pub returns-then-n-last-clause-new : goal.returns-then-n-last-clause-new
returns-then-n-last-clause-new c =
    let last = c.in-Some.ensures in
    sym (ap not (sym (ap₂ holds c.self.view_is c.number-n.ensures.value) ∙ found-holds _ c.in-Some.first _ c.number-n.result last.0 last.1 c.if-n-last.true))

pub returns-then-n-last-clause-members : goal.returns-then-n-last-clause-members
returns-then-n-last-clause-members c =
    let last = c.in-Some.ensures in
    let held = sym (ap₂ holds c.self.view_is c.number-n.ensures.value) ∙ found-holds _ c.in-Some.first _ c.number-n.result last.0 last.1 c.if-n-last.true in
    λ m. already c.args.self.now c.args.number held m

pub invariant_of-self-2 : goal.invariant_of-self-2
invariant_of-self-2 c =
    let old = c.self.inside.starts.entries in
    let n = c.number-n.result in
    let canonical = c.self.invariant in
    let starts : StartsAt old n c.match-last_up_to.start = elim c.match-last_up_to.branch [
      | in-Some+else-n-last+then-last-n w ↦ rw w.start-is (starts_left old n (w.in-Some.first, w.in-Some.last) canonical w.in-Some.ensures (omega arith))
      | in-Some+else-n-last+else-last-n w ↦ rw w.start-is (starts_apart old n (w.in-Some.first, w.in-Some.last) canonical c.number-n.ensures.low w.in-Some.ensures w.if-n-last.false w.if-last-n.false)
      | in_default w ↦ rw w.start-is (starts_alone old n canonical c.number-n.ensures.low w.in_default.ensures)
    ] in
    let ends : EndsAt old n c.unwrap_or-end.result = rw c.unwrap_or-end.ensures (ends_at old n c.copied.result canonical c.number-n.ensures.high (c.copied.ensures ∙ c.get.ensures.value)) in
    let joined : Joins old c.remove.new.self.entries n c.match-last_up_to.start c.unwrap_or-end.result =
    joins_made old c.insert.new.self.entries _ n _ _ c.in_ok-insert.ensures.updates.0 c.remove.ensures.updates.0 c.remove.ensures.ordered starts ends in
    joins-canonical old _ n _ _ canonical joined

pub returns : goal.returns
returns c =
    let old = c.self.inside.starts.entries in
    let n = c.number-n.result in
    let canonical = c.self.invariant in
    let starts : StartsAt old n c.match-last_up_to.start = elim c.match-last_up_to.branch [
      | in-Some+else-n-last+then-last-n w ↦ rw w.start-is (starts_left old n (w.in-Some.first, w.in-Some.last) canonical w.in-Some.ensures (omega arith))
      | in-Some+else-n-last+else-last-n w ↦ rw w.start-is (starts_apart old n (w.in-Some.first, w.in-Some.last) canonical c.number-n.ensures.low w.in-Some.ensures w.if-n-last.false w.if-last-n.false)
      | in_default w ↦ rw w.start-is (starts_alone old n canonical c.number-n.ensures.low w.in_default.ensures)
    ] in
    let ends : EndsAt old n c.unwrap_or-end.result = rw c.unwrap_or-end.ensures (ends_at old n c.copied.result canonical c.number-n.ensures.high (c.copied.ensures ∙ c.get.ensures.value)) in
    let joined : Joins old c.remove.new.self.entries n c.match-last_up_to.start c.unwrap_or-end.result =
    joins_made old c.insert.new.self.entries _ n _ _ c.in_ok-insert.ensures.updates.0 c.remove.ensures.updates.0 c.remove.ensures.ordered starts ends in
    record {
      new = sym (ap not (sym (ap₂ holds c.self.view_is c.number-n.ensures.value) ∙ starts.absent));
      members = λ m. joins-members old _ n _ _ m canonical joined
          ∙ ap₂ (λ (l : List Interval) (k : ℕ). holds l m || (m == k)) c.self.view_is c.number-n.ensures.value;
      canonical = joins-canonical old _ n _ _ canonical joined;
      err = search rules;
      err_of_new = search rules;
    }

pub returns-in_err-insert-clause-err_of_new : goal.returns-in_err-insert-clause-err_of_new
returns-in_err-insert-clause-err_of_new c =
    let old = c.self.inside.starts.entries in
    let n = c.number-n.result in
    let canonical = c.self.invariant in
    let starts : StartsAt old n c.match-last_up_to.start = elim c.match-last_up_to.branch [
      | in-Some+else-n-last+then-last-n w ↦ rw w.start-is (starts_left old n (w.in-Some.first, w.in-Some.last) canonical w.in-Some.ensures (omega arith))
      | in-Some+else-n-last+else-last-n w ↦ rw w.start-is (starts_apart old n (w.in-Some.first, w.in-Some.last) canonical c.number-n.ensures.low w.in-Some.ensures w.if-n-last.false w.if-last-n.false)
      | in_default w ↦ rw w.start-is (starts_alone old n canonical c.number-n.ensures.low w.in_default.ensures)
    ] in
    let exit = err_from_is_err_and c.from_residual.result c.from_residual.ensures.1 in
    rw exit.1 (sym (ap₂ holds c.self.view_is c.number-n.ensures.value) ∙ starts.absent)
