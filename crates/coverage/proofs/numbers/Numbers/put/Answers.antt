use Rattle.std.proofs.Common.{subst}
use Rattle.coverage.specs.Numbers.{AreListed}
use Rattle.coverage.proofs.EntriesLemmas.{AreListed-put, put_new}
use Rattle.coverage.proofs.numbers.Numbers.put.Goals as goal

pub invariant_of-self-2 : goal.invariant_of-self-2
invariant_of-self-2 c =
    let now = c.args.self.now in
    let put = put_new _ c.insert.new.self.entries now c.in_ok-key.key c.args.source.now c.args.numbers c.self.view_is c.in_ok-key.ensures.ok c.in_ok-insert.ensures.entries in
    AreListed-put now _ c.args.source.now c.args.numbers (subst AreListed c.self.view_is c.self.invariant) put c.requires

pub returns : goal.returns
returns c = put_new _ c.insert.new.self.entries c.args.self.now c.in_ok-key.key c.args.source.now c.args.numbers c.self.view_is c.in_ok-key.ensures.ok c.in_ok-insert.ensures.entries
