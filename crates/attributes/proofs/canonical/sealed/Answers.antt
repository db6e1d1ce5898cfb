use Rattle.std.proofs.Common.{◌≡◌, ◌∙◌, ◌∷◌, ◌++◌, [], ℕ, List, ap, refl, sym, subst, append_assoc, length, arith, string_bytes}
use Rattle.attributes.specs.steps.Place.{IsSpan, StandsIn, id_span, in_span, in_stretch}
use Rattle.attributes.proofs.PlaceLemmas.{ends_kept, places_kept, shown_kept, shows_in, span_in, text_is}
use Rattle.attributes.proofs.StretchLemmas.{stands_are, stands_there}
use Rattle.attributes.proofs.canonical.sealed.Goals as goal

joined : (t u more k one two all : List ℕ) → more ≡ u → one ≡ t ++ more → two ≡ one ++ k → all ≡ two → all ≡ t ++ (u ++ k)
joined t u more k one two all a b e f = f ∙ (e ∙ (ap (λ (l : List ℕ). l ++ k) (b ∙ ap (λ (l : List ℕ). t ++ l) a) ∙ append_assoc t u k))

pub returns-clause-shows : goal.returns-clause-shows
returns-clause-shows c =
    let t = string_bytes c.args.draft.text in
    let u = string_bytes c.args.draft.aside in
    let k = 34 ∷ (c.args.source.now ++ 34 ∷ []) ++ (c.args.id.now ++ 34 ∷ []) in
    let all = string_bytes c.shrink_to_fit.new.self in
    let is : all ≡ t ++ (u ++ k) = joined t u c.as_str.result.now k (string_bytes c.push_str.new.self) (string_bytes c.push_key.new.all) all c.as_str.ensures.value c.in_ok-push_str.ensures.bytes c.in_ok-source.ensures.more c.shrink_to_fit.ensures.bytes in
    let long : c.len-text_end.result ≡ length t = omega (arith, c.len-text_end.ensures) in
    shown_kept t u k all c.len-text_end.result is long c.args.draft.places.items c.requires.places

pub returns-clause-body : goal.returns-clause-body
returns-clause-body c =
    let t = string_bytes c.args.draft.text in
    let u = string_bytes c.args.draft.aside in
    let k = 34 ∷ (c.args.source.now ++ 34 ∷ []) ++ (c.args.id.now ++ 34 ∷ []) in
    let all = string_bytes c.shrink_to_fit.new.self in
    let s = c.in_ok-source.source in
    let is : all ≡ t ++ (u ++ k) = joined t u c.as_str.result.now k (string_bytes c.push_str.new.self) (string_bytes c.push_key.new.all) all c.as_str.ensures.value c.in_ok-push_str.ensures.bytes c.in_ok-source.ensures.more c.shrink_to_fit.ensures.bytes in
    let long : c.len-text_end.result ≡ length t = omega (arith, c.len-text_end.ensures) in
    let stretch = c.args.draft.payload in
    record {
      payload = subst (λ (l : List ℕ). StandsIn l stretch (in_stretch l stretch)) (sym (text_is t u k all c.len-text_end.result is long)) (stands_there t stretch c.requires.payload.0 c.requires.payload.1);
      ends = ends_kept t u k all c.len-text_end.result is long c.requires.ends;
      places = places_kept t u k all c.len-text_end.result is long c.args.draft.places.items c.requires.places;
      source = subst (λ (l : List ℕ). IsSpan l s) (sym c.shrink_to_fit.ensures.bytes) c.in_ok-source.ensures.source;
      id = subst (λ (l : List ℕ). IsSpan l (id_span l s)) (sym c.shrink_to_fit.ensures.bytes) c.in_ok-source.ensures.id;
      kind = span_in (t ++ u) k all c.words_in-kind.result (is ∙ sym (append_assoc t u k)) c.words_in-kind.ensures.span;
    }

pub returns-clause-kind : goal.returns-clause-kind
returns-clause-kind c =
    let t = string_bytes c.args.draft.text in
    let u = string_bytes c.args.draft.aside in
    let k = 34 ∷ (c.args.source.now ++ 34 ∷ []) ++ (c.args.id.now ++ 34 ∷ []) in
    let all = string_bytes c.shrink_to_fit.new.self in
    let is : all ≡ t ++ (u ++ k) = joined t u c.as_str.result.now k (string_bytes c.push_str.new.self) (string_bytes c.push_key.new.all) all c.as_str.ensures.value c.in_ok-push_str.ensures.bytes c.in_ok-source.ensures.more c.shrink_to_fit.ensures.bytes in
    shows_in (t ++ u) k all (in_span (t ++ u) c.words_in-kind.result) c.words_in-kind.result (is ∙ sym (append_assoc t u k)) c.words_in-kind.ensures.span refl ∙ c.words_in-kind.ensures.words

pub returns-clause-payload : goal.returns-clause-payload
returns-clause-payload c = λ json held.
    let t = string_bytes c.args.draft.text in
    let u = string_bytes c.args.draft.aside in
    let k = 34 ∷ (c.args.source.now ++ 34 ∷ []) ++ (c.args.id.now ++ 34 ∷ []) in
    let all = string_bytes c.shrink_to_fit.new.self in
    let is : all ≡ t ++ (u ++ k) = joined t u c.as_str.result.now k (string_bytes c.push_str.new.self) (string_bytes c.push_key.new.all) all c.as_str.ensures.value c.in_ok-push_str.ensures.bytes c.in_ok-source.ensures.more c.shrink_to_fit.ensures.bytes in
    let long : c.len-text_end.result ≡ length t = omega (arith, c.len-text_end.ensures) in
    ap (λ (l : List ℕ). in_stretch l c.args.draft.payload) (text_is t u k all c.len-text_end.result is long) ∙ stands_are t c.args.draft.payload json held
