use Rattle.std.proofs.Common.{◌∙◌, ap, arith, below_more, sym, true≢false}
use Rattle.std.proofs.lemmas.Option.{get_or_from_slice_get, slice_get_within}
use Rattle.std.proofs.lemmas.Slice.Eq.{bytes_eq-Decides}
use Rattle.command_words.specs.Commands.{word_of}
use Rattle.command_words.proofs.command.named.Goals as goal

pub loop-i-preserved : goal.loop-i-preserved
loop-i-preserved c =
    below_more _ _ c.loop-i.invariant
    (λ x at same. true≢false (sym ((bytes_eq-Decides c.word-own.result.now c.args.word.now).1 (c.word-own.ensures ∙ ap word_of (get_or_from_slice_get c.args.commands.now c.loop-i.i x _ at) ∙ same)) ∙ sym c.eq.ensures ∙ c.if-eq.false))

pub returns-clause-none : goal.returns-clause-none
returns-clause-none c is i command at same =
    let within = slice_get_within c.args.commands.now i command at in
    c.loop-i.invariant i (omega (arith, within, c.loop-i-test.false)) command at same
