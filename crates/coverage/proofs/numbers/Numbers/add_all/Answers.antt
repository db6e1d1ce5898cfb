use Rattle.std.proofs.Common.{◌≡◌, ℕ, false, ◌||◌, sym, ap, subst, refl, ◌∙◌}
use Rattle.coverage.specs.Intervals.{holds}
use Rattle.coverage.specs.Numbers.{IsEntry, AreListed, numbers_in}
use Rattle.coverage.proofs.HoldsLemmas.{holds-nil}
use Rattle.coverage.proofs.EntriesLemmas.{AreListed-put, holds_in-put, numbers_at, absent_at, put_back, put_found, put_new}
use Rattle.coverage.proofs.UnionLemmas.{some_joined}
use Rattle.coverage.proofs.numbers.Numbers.add_all.Goals as goal

pub invariant_of-self : goal.invariant_of-self
invariant_of-self c =
    let old = c.in-Some.own.now in
    let now = c.args.self.now in
    subst AreListed (sym (put_back _ (c.get_mut.follows.lender old).entries now c.args.source.now old old c.self.view_is c.in-Some.ensures.value (c.get_mut.follows.holds old).0 refl))
    (subst AreListed c.self.view_is c.self.invariant)

pub invariant_of-self-in-Some : goal.invariant_of-self-in-Some
invariant_of-self-in-Some c =
    let old = c.in-Some.own.now in
    let new = c.in_ok-own.field-0 in
    let now = c.args.self.now in
    let source = c.args.source.now in
    let summary = subst AreListed c.self.view_is c.self.invariant in
    let put = put_found _ (c.get_mut.follows.lender new).entries now source source old new c.self.view_is refl c.in-Some.ensures.value summary (c.get_mut.follows.holds new).0 in
    let some = some_joined old c.args.numbers.now new c.requires.2 c.requires.3 c.in_ok-own.ensures.members in
    AreListed-put now _ source new summary put (c.requires.0, c.requires.1, some, c.in_ok-own.ensures.canonical)

pub returns-in-Some-clause-members : goal.returns-in-Some-clause-members
returns-in-Some-clause-members c =
    let old = c.in-Some.own.now in
    let new = c.in_ok-own.field-0 in
    let now = c.args.self.now in
    let source = c.args.source.now in
    let summary = subst AreListed c.self.view_is c.self.invariant in
    let put = put_found _ (c.get_mut.follows.lender new).entries now source source old new c.self.view_is refl c.in-Some.ensures.value summary (c.get_mut.follows.holds new).0 in
    let was = numbers_at _ now source source _ c.self.view_is refl c.in-Some.ensures.value in
    holds_in-put now _ source new (holds c.args.numbers.now) put
    (λ m. c.in_ok-own.ensures.members m ∙ ap (λ l. holds l m || holds c.args.numbers.now m) (sym was))

pub invariant_of-self-2 : goal.invariant_of-self-2
invariant_of-self-2 c =
    let now = c.args.self.now in
    let source = c.args.source.now in
    let summary = subst AreListed c.self.view_is c.self.invariant in
    let new = c.in_ok-copy.field-0 in
    let absent = absent_at c.get_mut.result _ _ now source source c.self.view_is refl c.in_default.is c.get_mut.ensures.value c.get_mut.follows.holds-at-none in
    let put = put_new _ c.insert.new.self.entries now c.in_ok-key.key source new absent.1 c.in_ok-key.ensures.ok c.in_ok-insert.ensures.entries in
    AreListed-put now _ source new summary put (subst (λ l. IsEntry (source, l)) (sym c.in_ok-copy.ensures.copied) c.requires)

pub returns-clause-members : goal.returns-clause-members
returns-clause-members c =
    let now = c.args.self.now in
    let source = c.args.source.now in
    let summary = subst AreListed c.self.view_is c.self.invariant in
    let new = c.in_ok-copy.field-0 in
    let absent = absent_at c.get_mut.result _ _ now source source c.self.view_is refl c.in_default.is c.get_mut.ensures.value c.get_mut.follows.holds-at-none in
    let put = put_new _ c.insert.new.self.entries now c.in_ok-key.key source new absent.1 c.in_ok-key.ensures.ok c.in_ok-insert.ensures.entries in
    let none : (m : ℕ) → holds (numbers_in now source) m ≡ false = λ m. ap (λ l. holds l m) absent.0 ∙ holds-nil m in
    holds_in-put now _ source new (holds c.args.numbers.now) put
    (λ m. ap (λ l. holds l m) c.in_ok-copy.ensures.copied ∙ sym (ap (λ b. b || holds c.args.numbers.now m) (none m)))

pub returns-in_err-own-clause-summary : goal.returns-in_err-own-clause-summary
returns-in_err-own-clause-summary c =
    let old = c.in-Some.own.now in
    let now = c.args.self.now in
    subst AreListed (sym (put_back _ (c.get_mut.follows.lender old).entries now c.args.source.now old old c.self.view_is c.in-Some.ensures.value (c.get_mut.follows.holds old).0 refl))
    (subst AreListed c.self.view_is c.self.invariant)

pub returns-in-Some-clause-summary : goal.returns-in-Some-clause-summary
returns-in-Some-clause-summary c =
    let old = c.in-Some.own.now in
    let new = c.in_ok-own.field-0 in
    let now = c.args.self.now in
    let source = c.args.source.now in
    let summary = subst AreListed c.self.view_is c.self.invariant in
    let put = put_found _ (c.get_mut.follows.lender new).entries now source source old new c.self.view_is refl c.in-Some.ensures.value summary (c.get_mut.follows.holds new).0 in
    let some = some_joined old c.args.numbers.now new c.requires.2 c.requires.3 c.in_ok-own.ensures.members in
    AreListed-put now _ source new summary put (c.requires.0, c.requires.1, some, c.in_ok-own.ensures.canonical)

pub returns-clause-summary : goal.returns-clause-summary
returns-clause-summary c =
    let now = c.args.self.now in
    let source = c.args.source.now in
    let summary = subst AreListed c.self.view_is c.self.invariant in
    let new = c.in_ok-copy.field-0 in
    let absent = absent_at c.get_mut.result _ _ now source source c.self.view_is refl c.in_default.is c.get_mut.ensures.value c.get_mut.follows.holds-at-none in
    let put = put_new _ c.insert.new.self.entries now c.in_ok-key.key source new absent.1 c.in_ok-key.ensures.ok c.in_ok-insert.ensures.entries in
    AreListed-put now _ source new summary put (subst (λ l. IsEntry (source, l)) (sym c.in_ok-copy.ensures.copied) c.requires)
