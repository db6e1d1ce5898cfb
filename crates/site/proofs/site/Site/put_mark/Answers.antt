use Rattle.std.proofs.Common.{sym, subst}
use Rattle.std.proofs.lemmas.Option.{IfSome_then}
use Rattle.site.specs.Mark.{IsMark}
use Rattle.site.proofs.site.Site.put_mark.Goals as goal

pub invariant_of-self : goal.invariant_of-self
invariant_of-self c =
    let mark = c.args.mark in
    let was = c.self.invariant in
    let here = subst (λ B. IsMark B mark.peer mark.own mark.among mark.from mark.place) (sym c.self.view_is) c.requires in
    (was.0, was.1, was.2, was.3, was.4, was.5, IfSome_then c.boxed.result c.boxed.ensures (λ m same. subst (λ k. IsMark c.self.inside.inbox.arrivals k.peer k.own k.among k.from k.place) (sym same) here))
