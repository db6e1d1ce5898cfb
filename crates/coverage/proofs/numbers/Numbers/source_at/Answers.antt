use Rattle.std.proofs.Common.{ap, sym, ◌∙◌}
use Rattle.std.specs.Option.{option_map}
use Rattle.std.proofs.lemmas.Iterator.Consumers.{nth_from_yields_List, YieldsList-from_rest}
use Rattle.coverage.proofs.EntriesLemmas.{source_at_key}
use Rattle.coverage.proofs.numbers.Numbers.source_at.Goals as goal

pub returns : goal.returns
returns c =
    let at = nth_from_yields_List c.nth.result c.nth.new.self c.args.i c.nth.ensures.ran (YieldsList-from_rest _ c.keys.ensures.rest) in
    source_at_key _ c.args.self.now c.args.i c.unwrap.result c.as_str.result.now c.self.view_is (sym (ap (option_map (λ k. k.now)) c.unwrap.ensures) ∙ at) c.as_str.ensures.value
