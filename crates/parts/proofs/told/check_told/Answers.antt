use Rattle.std.proofs.Common.{map, subst}
use Rattle.std.proofs.lemmas.Result.{IfErr-weaker, on_ok_weaker}
use Rattle.parts.specs.Combined.{AreApart, RefusesRead}
use Rattle.parts.proofs.ToldLemmas.{told_refuses}
use Rattle.parts.proofs.told.check_told.Goals as goal

pub returns-clause-apart : goal.returns-clause-apart
returns-clause-apart c =
    on_ok_weaker c.check_apart.result (λ a. (c.args.gathered.now.covers.items, c.requires.covers, subst AreApart c.deref.ensures.value a)) c.check_apart.ensures.apart

pub returns-clause-refused : goal.returns-clause-refused
returns-clause-refused c =
    IfErr-weaker c.check_apart.result _ _
    (λ f r. told_refuses c.args.query (map (λ t. t.now) c.args.answers.now) c.args.gathered.now.covers.items c.requires.covers f (subst (λ ss. RefusesRead ss f) c.deref.ensures.value r))
    c.check_apart.ensures.refused
