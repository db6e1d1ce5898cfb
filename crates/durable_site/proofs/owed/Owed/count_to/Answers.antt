use Rattle.std.proofs.Common.{rules, arith, ◌≡◌, ◌<◌, ◌∙◌, List, [], ap, length, suc, sym, true≢false}
use Rattle.std.proofs.lemmas.Result.{err_from_is_err_and}
use Rattle.attributes.specs.Event.{EventValue}
use Rattle.inbox.specs.KeyOrder.{key_cmp}
use Rattle.inbox.specs.Ordered.{append_new}
use Rattle.inbox_table.specs.Calls.{joined}
use Rattle.durable_site.proofs.CountLemmas.{append_both, first_none}
use Rattle.durable_site.proofs.owed.Owed.count_to.Goals as goal
use Rattle.durable_site.proofs.owed.Owed.count_to.Goals.{in-Some, in-None}

pub returns-in_err-count-clause-all : goal.returns-in_err-count-clause-all
returns-in_err-count-clause-all c =
    let rest = joined c.loop-i.self-inside.behind.items in
    sym (append_both c.count.new.site c.count.new.batch rest)
    ∙ ap (λ (A : List EventValue). append_new key_cmp A rest) c.in_err-count.ensures.all
    ∙ append_both c.loop-i.site c.loop-i.self-inside.front rest ∙ c.loop-i.invariant.0

pub returns-in_err-count-clause-short : goal.returns-in_err-count-clause-short
returns-in_err-count-clause-short c =
    let exit = err_from_is_err_and c.from_residual.result c.from_residual.ensures.1 in
    rw exit.1 (λ none. c.in_err-count.ensures.short (first_none c.count.new.batch (joined c.loop-i.self-inside.behind.items) none))

pub loop-i-preserved : goal.loop-i-preserved
loop-i-preserved c =
    let front = c.loop-i.self-inside.front in
    let items = c.loop-i.self-inside.behind.items in
    let now = c.count.new.site in
    let inv = c.loop-i.invariant in
    let one : append_new key_cmp now [] ≡ append_new key_cmp c.loop-i.site front =
    sym (ap (λ (L : List EventValue). append_new key_cmp now L) c.in_ok-count.ensures.done) ∙ c.in_ok-count.ensures.all in
    let total : append_new key_cmp now (joined items) ≡ append_new key_cmp c.args.site.now c.args.self.now =
    ap (λ (A : List EventValue). append_new key_cmp A (joined items)) one ∙ append_both c.loop-i.site front (joined items) ∙ inv.0 in
    elim c.match-pop_front.branch [
      | in-Some w ↦ (
          let next = w.in-Some.ensures.items in
          let more : length items ≡ suc (length c.pop_front.new.self.items) = ap (λ (ls : List (List EventValue)). length ls) next in
          rw w.self-inside-is (sym (ap (λ (ls : List (List EventValue)). append_new key_cmp now (joined ls)) next) ∙ total, omega (arith, more, inv.1)))
      | in-None w ↦ (
          let some : 0 < length items = omega (arith, inv.1, c.loop-i-test.true) in
          absurd (true≢false (sym (w.in-None.ensures.variant.1 (search rules)))))
    ]
