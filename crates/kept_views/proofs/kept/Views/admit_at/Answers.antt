use Rattle.std.proofs.Common.{sym, ◌∙◌}
use Rattle.std.proofs.lemmas.Result.{on_ok_weaker}
use Rattle.attributes.specs.Event.{kind_of}
use Rattle.inbox.specs.Kept.{events}
use Rattle.inbox.proofs.ReadLemmas.{item_at}
use Rattle.kept_views.proofs.AmongLemmas.{are_of_hidden, are_of_shown, day_before, kind_before}
use Rattle.kept_views.proofs.kept.Views.admit_at.Goals as goal

pub returns-then-not-is_shown-clause-counted : goal.returns-then-not-is_shown-clause-counted
returns-then-not-is_shown-clause-counted c =
    let E = events c.args.inbox.now in
    let here = item_at E c.args.i c.requires.in_range in
    are_of_hidden c.args.inbox.now.arrivals E c.args.i here.0 c.args.self.now here.1 (sym (c.is_shown.ensures here.0 here.1) ∙ c.if-not-is_shown.true) c.requires.before

pub admit-requires : goal.admit-requires
admit-requires c =
    let A = c.args.inbox.now.arrivals in
    let E = events c.args.inbox.now in
    record {
      fits = kind_before A E c.args.i c.args.self.now (kind_of c.at.result.now) c.requires.before;
      days_fit = λ k. day_before A E c.args.i c.args.self.now k c.requires.before;
    }

pub returns-clause-counted : goal.returns-clause-counted
returns-clause-counted c =
    let E = events c.args.inbox.now in
    let e = c.at.result.now in
    on_ok_weaker c.admit.result (λ comes.
    are_of_shown c.args.inbox.now.arrivals E c.args.i c.came_at-place.result e c.args.self.now c.admit.new.self c.at.ensures (c.came_at-place.ensures ∙ c.at.ensures) (sym (c.is_shown.ensures e c.at.ensures) ∙ c.if-not-is_shown.false)
    c.requires.before comes) c.admit.ensures.comes
