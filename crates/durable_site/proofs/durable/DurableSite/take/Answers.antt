use Rattle.std.proofs.Common.{◌≡◌, ◌∙◌, ap, List, [], subst, sym, Ok}
use Rattle.sqlite.specs.Held.{state}
use Rattle.attributes.specs.Event.{EventValue}
use Rattle.inbox.specs.KeyOrder.{key_cmp}
use Rattle.inbox.specs.Ordered.{append_new}
use Rattle.inbox_table.specs.Calls.{KeptTable}
use Rattle.durable_site.specs.Durable.{TakeEffectOfFile, events_of}
use Rattle.durable_site.proofs.TakeLemmas.{kept_takes}
use Rattle.durable_site.proofs.durable.DurableSite.take.Goals as goal

pub returns-clause-effect : goal.returns-clause-effect
returns-clause-effect g c clean =
    let old = events_of c.args.self.now in
    let caught = c.in_ok-catch_up.ensures in
    let is = state g.S.Store c.keep.new.self.conn in
    let new = events_of {S = g.row.S.Denot} (record { table = c.keep.new.self; site = c.count_to-counted.new.site; owed = c.count_to-counted.new.self; alloc = c.catch_up.new.self.alloc }) in
    let none : append_new key_cmp c.catch_up.new.self.site [] ≡ old =
    sym (ap (λ (L : List EventValue). append_new key_cmp c.catch_up.new.self.site L) caught.counts.done) ∙ caught.counts.all in
    let all : append_new key_cmp old c.args.batch ≡ new =
    ap (λ (A : List EventValue). append_new key_cmp A c.args.batch) (sym none)
    ∙ ap (λ (L : List EventValue). append_new key_cmp c.catch_up.new.self.site L) (sym c.of.ensures) ∙ sym c.count_to-counted.ensures.all in
    let did = kept_takes c.args.batch old (state g.S.Store c.catch_up.new.self.table.conn) is _ c.in_ok-fresh.fresh
    c.in_ok-fresh.ensures.crash (c.in_ok-fresh.ensures.effect clean) clean in
    subst (λ (t : KeptTable g.row.S.Denot). TakeEffectOfFile c.args.batch old new (state g.S.Store t.conn) is (Ok c.in_ok-fresh.fresh)) c.catch_up.ensures.table
    (subst (λ (E : List EventValue). TakeEffectOfFile c.args.batch old E (state g.S.Store c.catch_up.new.self.table.conn) is (Ok c.in_ok-fresh.fresh)) all did)
