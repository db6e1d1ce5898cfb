use Rattle.std.proofs.Common.{◌≡◌, ◌∙◌, ◌∷◌, ◌++◌, [], ℕ, List, ap, append_assoc, string_bytes}
use Rattle.attributes.specs.steps.ObjectText.{marked}
use Rattle.attributes.proofs.PlaceLemmas.{id_pushed, id_shown, shows_in, span_in}
use Rattle.attributes.proofs.canonical.push_key.Goals as goal

behind : (one id two all : List ℕ) → two ≡ one ++ id → all ≡ two ++ 34 ∷ [] → all ≡ one ++ (id ++ 34 ∷ [])
behind one id two all a b = b ∙ (ap (λ (l : List ℕ). l ++ 34 ∷ []) a ∙ append_assoc one id (34 ∷ []))

pub returns-clause-more : goal.returns-clause-more
returns-clause-more c =
    let id = c.args.id.now in
    behind (string_bytes c.push_quoted.new.out) id (string_bytes c.push_str.new.self) (string_bytes c.push_str-2.new.self) c.in_ok-push_str.ensures.bytes c.in_ok-push_str-2.ensures.bytes
    ∙ (ap (λ (l : List ℕ). l ++ (id ++ 34 ∷ [])) c.in_ok-span.ensures.text
    ∙ append_assoc (string_bytes c.args.all.now) (marked c.args.source.now) (id ++ 34 ∷ []))

pub returns-clause-source : goal.returns-clause-source
returns-clause-source c =
    let id = c.args.id.now in
    let one = string_bytes c.push_quoted.new.out in
    let all = string_bytes c.push_str-2.new.self in
    span_in one (id ++ 34 ∷ []) all c.in_ok-span.span (behind one id (string_bytes c.push_str.new.self) all c.in_ok-push_str.ensures.bytes c.in_ok-push_str-2.ensures.bytes) c.in_ok-span.ensures.span

pub returns-clause-source_is : goal.returns-clause-source_is
returns-clause-source_is c =
    let id = c.args.id.now in
    let one = string_bytes c.push_quoted.new.out in
    let all = string_bytes c.push_str-2.new.self in
    shows_in one (id ++ 34 ∷ []) all c.args.source.now c.in_ok-span.span (behind one id (string_bytes c.push_str.new.self) all c.in_ok-push_str.ensures.bytes c.in_ok-push_str-2.ensures.bytes) c.in_ok-span.ensures.span c.in_ok-span.ensures.shows

pub returns-clause-id : goal.returns-clause-id
returns-clause-id c =
    let id = c.args.id.now in
    let one = string_bytes c.push_quoted.new.out in
    let all = string_bytes c.push_str-2.new.self in
    id_pushed (string_bytes c.args.all.now) c.args.source.now id one all c.in_ok-span.span c.in_ok-span.ensures.start c.in_ok-span.ensures.end c.in_ok-span.ensures.text (behind one id (string_bytes c.push_str.new.self) all c.in_ok-push_str.ensures.bytes c.in_ok-push_str-2.ensures.bytes)

pub returns-clause-id_is : goal.returns-clause-id_is
returns-clause-id_is c =
    let id = c.args.id.now in
    let one = string_bytes c.push_quoted.new.out in
    let all = string_bytes c.push_str-2.new.self in
    id_shown (string_bytes c.args.all.now) c.args.source.now id one all c.in_ok-span.span c.in_ok-span.ensures.start c.in_ok-span.ensures.end c.in_ok-span.ensures.text (behind one id (string_bytes c.push_str.new.self) all c.in_ok-push_str.ensures.bytes c.in_ok-push_str-2.ensures.bytes)
