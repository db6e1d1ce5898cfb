-- A value, too, is read alike whatever follows it.
use Rattle.std.proofs.Common.{◌≡◌, ◌≢◌, ℕ, zero, suc, ◌+◌, ◌<◌, ◌≤◌, Bool, true, false, List, [], ◌∷◌, ◌++◌, length, Option, Some, None, refl, sym, ap, ◌∙◌, subst, arith, append_assoc, length-append}
use Rattle.json.specs.Token.{Token, begin_object, end_object, begin_array, end_array, key, string, number, boolean, null, bad}
use Rattle.json.specs.Json as json
use Rattle.json.specs.Json.{Json, Items, no_items, item, Members, Parse, parse_map, items, members, value_with, value}
use Rattle.array_texts.proofs.Places.{NoBad, is_end, lasts}
use Rattle.array_texts.proofs.Parsing.{append, Taken, Local, nothing, same_first, same_rest, no_bad_append, lasts_append, enough, Listed, listed, Filled, filled}

pub append-no_items : (js : Items) → append js no_items ≡ js
append-no_items no_items = refl
append-no_items (item j js) = ap (item j) (append-no_items js)

pub mapped : {A B : Type 0} (f : A → B) (b : B) (r : List Token) (o : Option (A × List Token)) → parse_map f o ≡ Some (b, r) → (a : A) × (o ≡ Some (a, r)) × (b ≡ f a)
mapped f b r None h = nothing (b, r) h
mapped f b r (Some (a, s)) h = (a, ap (λ x. Some (a, x)) (same_rest (f a) b s r h), sym (same_first (f a) b s r h))

close_one : (p : Parse Json) (more : List Token) → items p 1 (end_array ∷ more) ≡ Some (no_items, more)
unfolding items
close_one p more = refl

array_local : (p : Parse Json) → Local p → Local (λ ts. items p (length ts) ts)
array_local p each ts r js h =
    let l = listed p (length ts) ts js r each h in
    record {
      used = l.used ++ end_array ∷ [];
      is = l.is ∙ sym (append_assoc l.used (end_array ∷ []) r);
      good = no_bad_append l.used (end_array ∷ []) l.good (refl, tt);
      ends = λ b. lasts_append b l.used (end_array ∷ []);
      some = omega (arith, length-append l.used (end_array ∷ []));
      again = λ more.
          ap (λ s. items p (length s) s) (append_assoc l.used (end_array ∷ []) more)
          ∙ enough p (length l.used + 1) (length (l.used ++ end_array ∷ more)) (l.used ++ end_array ∷ more) js more
          (l.again 1 (end_array ∷ more) more no_items (close_one p more) ∙ ap (λ x. Some (x, more)) (append-no_items js)) (omega (arith, length-append l.used (end_array ∷ more)));
    }

object_local : (p : Parse Json) → Local p → Local (λ ts. members p (length ts) ts)
object_local p each ts r ms h =
    let l = filled p (length ts) ts ms r each h in
    record {
      used = l.used;
      is = l.is;
      good = l.good;
      ends = l.ends;
      some = some l.used (l.ends false);
      again = λ more. l.again (length (l.used ++ more)) more (omega (arith, length-append l.used more));
    }
  where
    some : (u : List Token) → lasts false u ≡ true → 0 < length u
    some [] e = absurd (cc)
    some (t ∷ u) e = omega arith

one_token : (a : Parse Items) (o : Parse Members) (t : Token) (v j : Json) (ts r : List Token) → NoBad (t ∷ []) → is_end t ≡ true → ((more : List Token) → value_with a o (t ∷ more) ≡ Some (v, more))
    → value_with a o (t ∷ ts) ≡ Some (j, r) → Taken (value_with a o) (t ∷ ts) j r
one_token a o t v j ts r good ends all h =
    let e = sym (all ts) ∙ h in
    record {
      used = t ∷ [];
      is = ap (λ s. t ∷ s) (same_rest v j ts r e);
      good = good;
      ends = λ b. ends;
      some = omega arith;
      again = λ more. all more ∙ ap (λ x. Some (x, more)) (same_first v j ts r e);
    }

with_local : (a : Parse Items) (o : Parse Members) → Local a → Local o → Local (value_with a o)
with_local a o p q [] r j h = nothing (j, r) h
with_local a o p q (begin_object ∷ ts) r j h =
    let m = mapped json.object j r (o ts) h in
    let t = q ts r m.0 m.1 in
    record {
      used = begin_object ∷ t.used;
      is = ap (λ s. begin_object ∷ s) t.is;
      good = (refl, t.good);
      ends = λ b. t.ends false;
      some = omega arith;
      again = λ more. ap (parse_map json.object) (t.again more) ∙ ap (λ x. Some (x, more)) (sym m.2);
    }
with_local a o p q (end_object ∷ ts) r j h = nothing (j, r) h
with_local a o p q (begin_array ∷ ts) r j h =
    let m = mapped json.array j r (a ts) h in
    let t = p ts r m.0 m.1 in
    record {
      used = begin_array ∷ t.used;
      is = ap (λ s. begin_array ∷ s) t.is;
      good = (refl, t.good);
      ends = λ b. t.ends false;
      some = omega arith;
      again = λ more. ap (parse_map json.array) (t.again more) ∙ ap (λ x. Some (x, more)) (sym m.2);
    }
with_local a o p q (end_array ∷ ts) r j h = nothing (j, r) h
with_local a o p q (key s ∷ ts) r j h = nothing (j, r) h
with_local a o p q (string s ∷ ts) r j h = one_token a o (string s) (json.string s) j ts r (refl, tt) refl (λ more. refl) h
with_local a o p q (number s ∷ ts) r j h = one_token a o (number s) (json.number s) j ts r (refl, tt) refl (λ more. refl) h
with_local a o p q (boolean b ∷ ts) r j h = one_token a o (boolean b) (json.boolean b) j ts r (refl, tt) refl (λ more. refl) h
with_local a o p q (null ∷ ts) r j h = one_token a o null json.null j ts r (refl, tt) refl (λ more. refl) h
with_local a o p q (bad ∷ ts) r j h = nothing (j, r) h

pub value_local : (d : ℕ) → Local (value d)
unfolding value
value_local zero = with_local (λ ts. None) (λ ts. None) (λ ts r js h. nothing (js, r) h) (λ ts r ms h. nothing (ms, r) h)
value_local (suc d) = with_local (λ ts. items (value d) (length ts) ts) (λ ts. members (value d) (length ts) ts) (array_local (value d) (value_local d)) (object_local (value d) (value_local d))
