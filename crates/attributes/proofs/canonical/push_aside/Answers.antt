use Rattle.std.proofs.Common.{string_bytes, ap}
use Rattle.attributes.specs.declared.scalar.Scalar.TheVariants as scalar
use Rattle.attributes.proofs.PlaceLemmas.{aside_name, aside_name_is, aside_words, aside_words_are}
use Rattle.attributes.proofs.canonical.push_aside.Goals as goal

pub returns-clause-place : goal.returns-clause-place
returns-clause-place c = λ t.
    let a = string_bytes c.push_quoted.new.out in
    let b = string_bytes c.push_str.new.self in
    let d = string_bytes c.push_quoted-2.new.out in
    let n = c.in_ok-name.name in
    let w = c.in_ok-words.words in (
      aside_name a b d c.args.text.now n w c.in_ok-push_str.ensures.bytes c.in_ok-words.ensures.text c.in_ok-name.ensures.end c.in_ok-words.ensures.start c.in_ok-name.ensures.span,
      aside_words a b d c.args.text.now n w c.in_ok-push_str.ensures.bytes c.in_ok-words.ensures.text c.in_ok-name.ensures.end c.in_ok-words.ensures.start c.in_ok-words.ensures.span,
    )

pub returns-clause-name : goal.returns-clause-name
returns-clause-name c = λ t.
    let a = string_bytes c.push_quoted.new.out in
    let b = string_bytes c.push_str.new.self in
    let d = string_bytes c.push_quoted-2.new.out in
    aside_name_is a b d c.args.text.now c.in_ok-name.name c.in_ok-words.words c.in_ok-push_str.ensures.bytes c.in_ok-words.ensures.text c.in_ok-name.ensures.end c.in_ok-words.ensures.start c.args.name.now c.in_ok-name.ensures.span c.in_ok-name.ensures.shows

pub returns-clause-value : goal.returns-clause-value
returns-clause-value c = λ t.
    let a = string_bytes c.push_quoted.new.out in
    let b = string_bytes c.push_str.new.self in
    let d = string_bytes c.push_quoted-2.new.out in
    ap scalar.Words (aside_words_are a b d c.args.text.now c.in_ok-name.name c.in_ok-words.words c.in_ok-push_str.ensures.bytes c.in_ok-words.ensures.text c.in_ok-name.ensures.end c.in_ok-words.ensures.start c.in_ok-words.ensures.shows)
