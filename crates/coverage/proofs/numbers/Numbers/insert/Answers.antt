use Rattle.std.proofs.Common.{refl, ◌≡◌, ◌||◌, ◌==◌, ℕ, not, sym, ap, subst, ◌∙◌}
use Rattle.std.specs.Result.{IfOk}
use Rattle.std.proofs.lemmas.Result.{err_from_is_err_and}
use Rattle.coverage.specs.Intervals.{holds}
use Rattle.coverage.specs.Numbers.{AreListed, numbers_in}
use Rattle.coverage.proofs.HoldsLemmas.{holds-nil}
use Rattle.coverage.proofs.EntriesLemmas.{AreListed-put, OnErr-along, OnOk-along, absent_at, entry_found, holds_in-put, numbers_at, put_back, put_found, put_new, some_added, some_after}
use Rattle.coverage.proofs.numbers.Numbers.insert.Goals as goal

-- ---- the source is there
pub invariant_of-self : goal.invariant_of-self
invariant_of-self c =
    let old = c.in-Some.numbers.now in
    let new = c.insert.new.self in
    let now = c.args.self.now in
    let source = c.args.source.now in
    let summary = subst AreListed c.self.view_is c.self.invariant in
    let put = put_found _ (c.get_mut.follows.lender new).entries now c.args.source.now source old new c.self.view_is refl c.in-Some.ensures.value summary (c.get_mut.follows.holds new).0 in
    let some = some_after c.insert.result old new c.args.number c.insert.ensures.members c.insert.ensures.err (entry_found _ _ old c.self.invariant.0 c.in-Some.ensures.value).0 in
    AreListed-put now _ source new summary put (c.utf8.source, c.requires, some, c.insert.ensures.canonical)

pub returns-in-Some-clause-new : goal.returns-in-Some-clause-new
returns-in-Some-clause-new c =
    let now = c.args.self.now in
    let source = c.args.source.now in
    let was = numbers_at _ now c.args.source.now source _ c.self.view_is refl c.in-Some.ensures.value in
    subst (λ l. IfOk c.insert.result (λ b. b ≡ not (holds l c.args.number))) (sym was) c.insert.ensures.new

pub returns-in-Some-clause-members : goal.returns-in-Some-clause-members
returns-in-Some-clause-members c =
    let old = c.in-Some.numbers.now in
    let new = c.insert.new.self in
    let now = c.args.self.now in
    let source = c.args.source.now in
    let summary = subst AreListed c.self.view_is c.self.invariant in
    let put = put_found _ (c.get_mut.follows.lender new).entries now c.args.source.now source old new c.self.view_is refl c.in-Some.ensures.value summary (c.get_mut.follows.holds new).0 in
    let was = numbers_at _ now c.args.source.now source _ c.self.view_is refl c.in-Some.ensures.value in
    OnOk-along c.insert.result _ _ (λ members. holds_in-put now _ source new (λ m. m == c.args.number) put
    (λ m. members m ∙ ap (λ l. holds l m || (m == c.args.number)) (sym was))) c.insert.ensures.members

pub returns-in-Some-clause-summary : goal.returns-in-Some-clause-summary
returns-in-Some-clause-summary c =
    let old = c.in-Some.numbers.now in
    let new = c.insert.new.self in
    let now = c.args.self.now in
    let source = c.args.source.now in
    let summary = subst AreListed c.self.view_is c.self.invariant in
    let put = put_found _ (c.get_mut.follows.lender new).entries now c.args.source.now source old new c.self.view_is refl c.in-Some.ensures.value summary (c.get_mut.follows.holds new).0 in
    let some = some_after c.insert.result old new c.args.number c.insert.ensures.members c.insert.ensures.err (entry_found _ _ old c.self.invariant.0 c.in-Some.ensures.value).0 in
    AreListed-put now _ source new summary put (c.utf8.source, c.requires, some, c.insert.ensures.canonical)

pub returns-in-Some-clause-err : goal.returns-in-Some-clause-err
returns-in-Some-clause-err c =
    let old = c.in-Some.numbers.now in
    let new = c.insert.new.self in
    OnErr-along c.insert.result _ _
    (λ same. put_back _ (c.get_mut.follows.lender new).entries c.args.self.now _ old new c.self.view_is c.in-Some.ensures.value (c.get_mut.follows.holds new).0 same)
    c.insert.ensures.err

-- ---- the source is new
pub invariant_of-self-2 : goal.invariant_of-self-2
invariant_of-self-2 c =
    let now = c.args.self.now in
    let source = c.args.source.now in
    let summary = subst AreListed c.self.view_is c.self.invariant in
    let new = c.insert-2.new.self in
    let absent = absent_at c.get_mut.result _ _ now c.args.source.now source c.self.view_is refl c.in_default.is c.get_mut.ensures.value c.get_mut.follows.holds-at-none in
    let put = put_new _ c.insert-3.new.self.entries now c.in_ok-key.key source new absent.1 (c.in_ok-key.ensures.ok) c.in_ok-insert-2.ensures.entries in
    let members : (m : ℕ) → holds new m ≡ (holds (numbers_in now source) m || (m == c.args.number)) =
    λ m. c.in_ok-insert.ensures.members m ∙ ap (λ l. holds l m || (m == c.args.number)) (c.empty-first.ensures.list ∙ sym absent.0) in
    AreListed-put now _ source new summary put
    (c.utf8.source, c.requires, some_added new (numbers_in now source) c.args.number members, c.insert-2.ensures.canonical)

pub returns-clause-new : goal.returns-clause-new
returns-clause-new c =
    let now = c.args.self.now in
    let source = c.args.source.now in
    let absent = absent_at c.get_mut.result _ _ now c.args.source.now source c.self.view_is refl c.in_default.is c.get_mut.ensures.value c.get_mut.follows.holds-at-none in
    sym (ap not (ap (λ l. holds l c.args.number) absent.0 ∙ holds-nil _))

pub returns-clause-members : goal.returns-clause-members
returns-clause-members c =
    let now = c.args.self.now in
    let source = c.args.source.now in
    let summary = subst AreListed c.self.view_is c.self.invariant in
    let new = c.insert-2.new.self in
    let absent = absent_at c.get_mut.result _ _ now c.args.source.now source c.self.view_is refl c.in_default.is c.get_mut.ensures.value c.get_mut.follows.holds-at-none in
    let put = put_new _ c.insert-3.new.self.entries now c.in_ok-key.key source new absent.1 (c.in_ok-key.ensures.ok) c.in_ok-insert-2.ensures.entries in
    let members : (m : ℕ) → holds new m ≡ (holds (numbers_in now source) m || (m == c.args.number)) =
    λ m. c.in_ok-insert.ensures.members m ∙ ap (λ l. holds l m || (m == c.args.number)) (c.empty-first.ensures.list ∙ sym absent.0) in
    holds_in-put now _ source new (λ m. m == c.args.number) put members

pub returns-clause-summary : goal.returns-clause-summary
returns-clause-summary c =
    let now = c.args.self.now in
    let source = c.args.source.now in
    let summary = subst AreListed c.self.view_is c.self.invariant in
    let new = c.insert-2.new.self in
    let absent = absent_at c.get_mut.result _ _ now c.args.source.now source c.self.view_is refl c.in_default.is c.get_mut.ensures.value c.get_mut.follows.holds-at-none in
    let put = put_new _ c.insert-3.new.self.entries now c.in_ok-key.key source new absent.1 (c.in_ok-key.ensures.ok) c.in_ok-insert-2.ensures.entries in
    let members : (m : ℕ) → holds new m ≡ (holds (numbers_in now source) m || (m == c.args.number)) =
    λ m. c.in_ok-insert.ensures.members m ∙ ap (λ l. holds l m || (m == c.args.number)) (c.empty-first.ensures.list ∙ sym absent.0) in
    AreListed-put now _ source new summary put
    (c.utf8.source, c.requires, some_added new (numbers_in now source) c.args.number members, c.insert-2.ensures.canonical)

pub returns-in-Some-clause-err_of_new : goal.returns-in-Some-clause-err_of_new
returns-in-Some-clause-err_of_new c =
    let now = c.args.self.now in
    let source = c.args.source.now in
    let was = numbers_at _ now source source _ c.self.view_is refl c.in-Some.ensures.value in
    OnErr-along c.insert.result _ _ (λ absent. ap (λ l. holds l c.args.number) was ∙ absent) c.insert.ensures.err_of_new

pub returns-in_err-insert-clause-err_of_new : goal.returns-in_err-insert-clause-err_of_new
returns-in_err-insert-clause-err_of_new c =
    let now = c.args.self.now in
    let source = c.args.source.now in
    let absent = absent_at c.get_mut.result _ _ now source source c.self.view_is refl c.in_default.is c.get_mut.ensures.value c.get_mut.follows.holds-at-none in
    let exit = err_from_is_err_and c.from_residual.result c.from_residual.ensures.1 in
    rw exit.1 (ap (λ l. holds l c.args.number) absent.0 ∙ holds-nil _)

pub returns-in_err-key-clause-err_of_new : goal.returns-in_err-key-clause-err_of_new
returns-in_err-key-clause-err_of_new c =
    let now = c.args.self.now in
    let source = c.args.source.now in
    let absent = absent_at c.get_mut.result _ _ now source source c.self.view_is refl c.in_default.is c.get_mut.ensures.value c.get_mut.follows.holds-at-none in
    let exit = err_from_is_err_and c.from_residual-in_err-key.result c.from_residual-in_err-key.ensures.1 in
    rw exit.1 (ap (λ l. holds l c.args.number) absent.0 ∙ holds-nil _)

pub returns-in_err-insert-2-clause-err_of_new : goal.returns-in_err-insert-2-clause-err_of_new
returns-in_err-insert-2-clause-err_of_new c =
    let now = c.args.self.now in
    let source = c.args.source.now in
    let absent = absent_at c.get_mut.result _ _ now source source c.self.view_is refl c.in_default.is c.get_mut.ensures.value c.get_mut.follows.holds-at-none in
    let exit = err_from_is_err_and c.from_residual-in_err-insert-2.result c.from_residual-in_err-insert-2.ensures.1 in
    rw exit.1 (ap (λ l. holds l c.args.number) absent.0 ∙ holds-nil _)
