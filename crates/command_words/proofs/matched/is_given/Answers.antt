use Rattle.std.proofs.Common.{Some, None, ap, sym, ◌∙◌}
use Rattle.clap.specs.Words.{found_of}
use Rattle.command_words.specs.Plans.{is_of_words}
use Rattle.command_words.proofs.GivenLemmas.{given}
use Rattle.command_words.proofs.matched.is_given.Goals as goal

pub returns-in-Some-CommandLine : goal.returns-in-Some-CommandLine
returns-in-Some-CommandLine c =
    let at = c.in-Some-CommandLine in
    ap (λ v. is_of_words (Some v)) (sym at.field-0-is) ∙ given (found_of c.args.matches.now) c.args.id.now (Some at.field-0) at.ensures

pub returns-in-Some-DefaultValue : goal.returns-in-Some-DefaultValue
returns-in-Some-DefaultValue c =
    let at = c.in-Some-DefaultValue in
    ap (λ v. is_of_words (Some v)) (sym at.field-0-is) ∙ given (found_of c.args.matches.now) c.args.id.now (Some at.field-0) at.ensures

pub returns-in-None : goal.returns-in-None
returns-in-None c = given (found_of c.args.matches.now) c.args.id.now None c.in-None.ensures
