use Rattle.std.proofs.Common.{rules, ◌≡◌, ◌<◌, ◌+◌, ◌∙◌, ◌++◌, List, ap, drop, length, sym, true≢false}
use Rattle.std.proofs.lemmas.List.{drop_more}
use Rattle.attributes.specs.Event.{EventValue}
use Rattle.inbox_table.specs.Calls.{joined}
use Rattle.durable_site.proofs.CountLemmas.{first_none, second_none}
use Rattle.durable_site.proofs.owed.Owed.is_empty.Goals as goal

pub returns-then-not-is_empty : goal.returns-then-not-is_empty
returns-then-not-is_empty c =
    let front = c.self.inside.front in
    let items = c.self.inside.behind.items in
    let here = c.index.result.now in
    let inside : c.loop-i.i < length items = search rules in
    let behind = joined (drop (c.loop-i.i + 1) items) in
    let all : joined items ≡ here ++ behind = sym c.loop-i.invariant
    ∙ ap (λ (ls : List (List EventValue)). joined ls) (drop_more items c.loop-i.i here inside)
    ∙ ap (λ (L : List EventValue). L ++ behind) (sym c.index.ensures) in (
      λ f. absurd (true≢false (sym f)),
      λ none. c.if-not-is_empty.ensures.1 (ap (λ (L : List EventValue). length L)
          (first_none here behind (sym all ∙ second_none front (joined items) (c.self.view_is ∙ none)))),
    )
