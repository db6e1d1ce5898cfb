-- A value's tokens are read alike whatever follows them.
use Rattle.std.proofs.Common.{◌≡◌, ◌≢◌, ℕ, zero, suc, ◌+◌, ◌-◌, ◌<◌, ◌≤◌, Bool, true, false, List, [], ◌∷◌, ◌++◌, length, Option, Some, None, option_map, option_and_then, refl, sym, ap, ap₂, ◌∙◌, subst, arith, append_assoc, length-append}
use Rattle.std.proofs.lemmas.Bool.{false≢true, true≢false}
use Rattle.std.specs.Prelude.{⊤}
use Rattle.json.specs.Token.{Token, begin_object, end_object, begin_array, end_array, key, string, number, boolean, null, bad}
use Rattle.json.specs.Json as json
use Rattle.json.specs.Json.{Json, Items, no_items, item, Members, no_members, member, Parse, parse_map, after_end_array, read_key, items_step, members_step, items, members, value_with, value}
use Rattle.json.specs.Align.{is_good}
use Rattle.json.proofs.Grammar.{items_end, items_more, members_end, members_more, closed_array, read_key_is, key_token}
use Rattle.array_texts.proofs.Places.{NoBad, is_end, lasts}

abbrev pub append : Items → Items → Items
append no_items ks = ks
append (item j js) ks = item j (append js ks)

pub nothing : {A P : Type 0} (a : A) → None ≡ Some a → P
nothing a h = absurd (cc)

abbrev got : {A : Type 0} → A → Option A → A
got d None = d
got d (Some a) = a

-- both are one answer
abbrev Are : {A : Type 0} → Option (A × List Token) → A → List Token → Type 0
Are o a r = o ≡ Some (a, r)

pub same_first : {A : Type 0} (a b : A) (r s : List Token) → Are (Some (a, r)) b s → a ≡ b
same_first {A} a b r s h = ap (λ o. (got {A = A × List Token} (a, r) o).0) h

pub same_rest : {A : Type 0} (a b : A) (r s : List Token) → Are (Some (a, r)) b s → r ≡ s
same_rest {A} a b r s h = ap (λ o. (got {A = A × List Token} (a, r) o).1) h

-- ---- lists of tokens

pub no_bad_append : (a b : List Token) → NoBad a → NoBad b → NoBad (a ++ b)
no_bad_append [] b g h = h
no_bad_append (t ∷ a) b g h = (g.0, no_bad_append a b g.1 h)

pub lasts_append : (c : Bool) (a b : List Token) → lasts c (a ++ b) ≡ lasts (lasts c a) b
lasts_append c [] b = refl
lasts_append c (t ∷ a) b = lasts_append (is_end t) a b

-- ---- what a parse takes

pub record Taken {A : Type 0} (p : Parse A) (ts : List Token) (a : A) (r : List Token) : Type 0 where
  pub used : List Token
  pub is : ts ≡ used ++ r
  pub good : NoBad used
  pub ends : (b : Bool) → lasts b used ≡ true
  pub some : 0 < length used
  pub again : (more : List Token) → p (used ++ more) ≡ Some (a, more)

abbrev pub Local : {A : Type 0} → Parse A → Type 0
Local {A} p = (ts r : List Token) (a : A) → p ts ≡ Some (a, r) → Taken p ts a r

head_none : (t : Token) (u v : List Token) → after_end_array (t ∷ u) ≡ None → after_end_array (t ∷ v) ≡ None
head_none begin_object u v h = refl
head_none end_object u v h = refl
head_none begin_array u v h = refl
head_none end_array u v h = cc
head_none (key s) u v h = refl
head_none (string s) u v h = refl
head_none (number s) u v h = refl
head_none (boolean b) u v h = refl
head_none null u v h = refl
head_none bad u v h = refl

front_none : (used r s : List Token) → 0 < length used → after_end_array (used ++ r) ≡ None → after_end_array (used ++ s) ≡ None
front_none [] r s some h = let never : ⊥ = omega arith in absurd never
front_none (t ∷ used) r s some h = head_none t (used ++ r) (used ++ s) h

module _ (p : Parse Json) where
  -- ---- enough turns stay enough

  pub data Turned (n : ℕ) (ts : List Token) (js : Items) (r : List Token) : Type 0 where
    over : js ≡ no_items → after_end_array ts ≡ Some r → Turned n ts js r
    goes_on : (j : Json) (s : List Token) (ks : Items) → js ≡ item j ks → after_end_array ts ≡ None → p ts ≡ Some (j, s) → items p n s ≡ Some (ks, r) → Turned n ts js r

  mapped : (j : Json) (js : Items) (r : List Token) (o : Option (Items × List Token)) → parse_map (item j) o ≡ Some (js, r) → (ks : Items) × (o ≡ Some (ks, r)) × (js ≡ item j ks)
  mapped j js r None h = nothing (js, r) h
  mapped j js r (Some (ks, s)) h = (ks, ap (λ x. Some (ks, x)) (same_rest (item j ks) js s r h), sym (same_first (item j ks) js s r h))

  turned_more : (n : ℕ) (ts : List Token) (js : Items) (r : List Token) (o : Option (Json × List Token)) → p ts ≡ o → after_end_array ts ≡ None
      → option_and_then (λ q. parse_map (item q.0) (items p n q.1)) o ≡ Some (js, r) → Turned n ts js r
  turned_more n ts js r None e none h = nothing (js, r) h
  turned_more n ts js r (Some (j, s)) e none h = let m = mapped j js r (items p n s) h in goes_on j s m.0 m.2 none e m.1

  turned_by : (n : ℕ) (ts : List Token) (js : Items) (r : List Token) (o : Option (List Token)) → after_end_array ts ≡ o → items_step p (items p n) ts o ≡ Some (js, r) → Turned n ts js r
  turned_by n ts js r None e h = turned_more n ts js r (p ts) refl e h
  turned_by n ts js r (Some s) e h = over (sym (same_first no_items js s r h)) (e ∙ ap Some (same_rest no_items js s r h))

  pub turned : (n : ℕ) (ts : List Token) (js : Items) (r : List Token) → items p (suc n) ts ≡ Some (js, r) → Turned n ts js r
  unfolding items
  turned n ts js r h = turned_by n ts js r (after_end_array ts) refl h

  pub no_turn : {P : Type 0} (ts : List Token) (js : Items) (r : List Token) → items p zero ts ≡ Some (js, r) → P
  unfolding items
  no_turn ts js r h = nothing (js, r) h

  over_again : (n : ℕ) (ts : List Token) (js : Items) (r : List Token) → js ≡ no_items → after_end_array ts ≡ Some r → items p (suc n) ts ≡ Some (js, r)
  unfolding items
  over_again n ts js r e h = ap (items_step p (items p n) ts) h ∙ ap (λ x. Some (x, r)) (sym e)

  more_again : (n : ℕ) (ts s r : List Token) (j : Json) (js ks : Items) → js ≡ item j ks → after_end_array ts ≡ None → p ts ≡ Some (j, s) → items p n s ≡ Some (ks, r) → items p (suc n) ts ≡ Some (js, r)
  unfolding items
  more_again n ts s r j js ks e none one rest =
      ap (items_step p (items p n) ts) none ∙ ap (option_and_then (λ q. parse_map (item q.0) (items p n q.1))) one ∙ ap (parse_map (item j)) rest ∙ ap (λ x. Some (x, r)) (sym e)

  enough_by : (n m : ℕ) (ts : List Token) (js : Items) (r : List Token) → ((s : List Token) (ks : Items) → items p n s ≡ Some (ks, r) → items p m s ≡ Some (ks, r)) → Turned n ts js r → items p (suc m) ts ≡ Some (js, r)
  enough_by n m ts js r again (over e h) = over_again m ts js r e h
  enough_by n m ts js r again (goes_on j s ks e none one rest) = more_again m ts s r j js ks e none one (again s ks rest)

  pub enough : (n m : ℕ) (ts : List Token) (js : Items) (r : List Token) → items p n ts ≡ Some (js, r) → n ≤ m → items p m ts ≡ Some (js, r)
  enough zero m ts js r h le = no_turn ts js r h
  enough (suc n) zero ts js r h le = let never : ⊥ = omega arith in absurd never
  enough (suc n) (suc m) ts js r h le = enough_by n m ts js r (λ s ks k. enough n m s ks r k (omega arith)) (turned n ts js r h)

  -- ---- what the items of an array take, before its closing bracket

  pub record Listed (ts : List Token) (js : Items) (r : List Token) : Type 0 where
    pub used : List Token
    pub is : ts ≡ used ++ end_array ∷ r
    pub good : NoBad used
    pub ends : lasts true used ≡ true
    pub some : js ≢ no_items → 0 < length used
    pub again : (m : ℕ) (more rest : List Token) (ks : Items) → items p m more ≡ Some (ks, rest) → items p (length used + m) (used ++ more) ≡ Some (append js ks, rest)

  front_more : (one two more rest : List Token) (j : Json) (js ks : Items) (m : ℕ) → 0 < length one → after_end_array (one ++ (two ++ more)) ≡ None → p (one ++ (two ++ more)) ≡ Some (j, two ++ more)
      → items p (length two + m) (two ++ more) ≡ Some (append js ks, rest) → items p (length (one ++ two) + m) ((one ++ two) ++ more) ≡ Some (item j (append js ks), rest)
  front_more one two more rest j js ks m some none first then =
      let longer : suc (length two + m) ≤ length (one ++ two) + m = omega (arith, length-append one two) in
      ap (items p (length (one ++ two) + m)) (append_assoc one two more)
      ∙ enough (suc (length two + m)) (length (one ++ two) + m) (one ++ (two ++ more)) (item j (append js ks)) rest
      (more_again (length two + m) (one ++ (two ++ more)) (two ++ more) rest j (item j (append js ks)) (append js ks) refl none first then) longer

  listed_by : (n : ℕ) (ts : List Token) (js : Items) (r : List Token) → Local p → ((s : List Token) (ks : Items) → items p n s ≡ Some (ks, r) → Listed s ks r) → Turned n ts js r → Listed ts js r
  listed_by n ts js r each again (over e h) =
      record {
        used = [];
        is = closed_array ts r h;
        good = tt;
        ends = refl;
        some = λ other. absurd (other e);
        again = λ m more rest ks k. enough m (0 + m) more (append js ks) rest (k ∙ ap (λ x. Some (append x ks, rest)) (sym e)) (omega arith);
      }
  listed_by n ts js r each again (goes_on j s ks e none first rest) =
      let one : Taken p ts j s = each ts s j first in
      let two = again s ks rest in
      let start : after_end_array (one.used ++ s) ≡ None = ap after_end_array (sym one.is) ∙ none in
      record {
        used = one.used ++ two.used;
        is = one.is ∙ ap (λ l. one.used ++ l) two.is ∙ sym (append_assoc one.used two.used (end_array ∷ r));
        good = no_bad_append one.used two.used one.good two.good;
        ends = lasts_append true one.used two.used ∙ ap (λ b. lasts b two.used) (one.ends true) ∙ two.ends;
        some = λ other. omega (arith, one.some, length-append one.used two.used);
        again = λ m more left ls k.
            front_more one.used two.used more left j ks ls m one.some (front_none one.used s (two.used ++ more) one.some start) (one.again (two.used ++ more)) (two.again m more left ls k)
            ∙ ap (λ x. Some (append x ls, left)) (sym e);
      }

  pub listed : (n : ℕ) (ts : List Token) (js : Items) (r : List Token) → Local p → items p n ts ≡ Some (js, r) → Listed ts js r
  listed zero ts js r each h = no_turn ts js r h
  listed (suc n) ts js r each h = listed_by n ts js r each (λ s ks k. listed n s ks r each k) (turned n ts js r h)

  -- ---- what the members of an object take, with its closing brace

  pub data Keyed (n : ℕ) (ts : List Token) (ms : Members) (r : List Token) : Type 0 where
    over : ms ≡ no_members → ts ≡ end_object ∷ r → Keyed n ts ms r
    goes_on : (k : List ℕ) (j : Json) (t s : List Token) (ns : Members) → ms ≡ member k j ns → ts ≡ key k ∷ t → p t ≡ Some (j, s) → members p n s ≡ Some (ns, r) → Keyed n ts ms r

  mapped_member : (k : List ℕ) (j : Json) (ms : Members) (r : List Token) (o : Option (Members × List Token)) → parse_map (member k j) o ≡ Some (ms, r) → (ns : Members) × (o ≡ Some (ns, r)) × (ms ≡ member k j ns)
  mapped_member k j ms r None h = nothing (ms, r) h
  mapped_member k j ms r (Some (ns, s)) h = (ns, ap (λ x. Some (ns, x)) (same_rest (member k j ns) ms s r h), sym (same_first (member k j ns) ms s r h))

  keyed_more : (n : ℕ) (ts t : List Token) (k : List ℕ) (ms : Members) (r : List Token) (o : Option (Json × List Token)) → p t ≡ o → ts ≡ key k ∷ t
      → option_and_then (λ q. parse_map (member k q.0) (members p n q.1)) o ≡ Some (ms, r) → Keyed n ts ms r
  keyed_more n ts t k ms r None e is h = nothing (ms, r) h
  keyed_more n ts t k ms r (Some (j, s)) e is h = let m = mapped_member k j ms r (members p n s) h in goes_on k j t s m.0 m.2 is e m.1

  keyed_by : (n : ℕ) (ts : List Token) (ms : Members) (r : List Token) (o : Option (Option (List ℕ) × List Token)) → read_key ts ≡ o → option_and_then (λ q. members_step p (members p n) q.0 q.1) o ≡ Some (ms, r) → Keyed n ts ms r
  keyed_by n ts ms r None e h = nothing (ms, r) h
  keyed_by n ts ms r (Some (None, s)) e h = over (sym (same_first no_members ms s r h)) (read_key_is ts None s e ∙ ap (λ x. end_object ∷ x) (same_rest no_members ms s r h))
  keyed_by n ts ms r (Some (Some k, t)) e h = keyed_more n ts t k ms r (p t) refl (read_key_is ts (Some k) t e) h

  keyed : (n : ℕ) (ts : List Token) (ms : Members) (r : List Token) → members p (suc n) ts ≡ Some (ms, r) → Keyed n ts ms r
  unfolding members
  keyed n ts ms r h = keyed_by n ts ms r (read_key ts) refl h

  no_key_turn : {P : Type 0} (ts : List Token) (ms : Members) (r : List Token) → members p zero ts ≡ Some (ms, r) → P
  unfolding members
  no_key_turn ts ms r h = nothing (ms, r) h

  pub record Filled (ts : List Token) (ms : Members) (r : List Token) : Type 0 where
    pub used : List Token
    pub is : ts ≡ used ++ r
    pub good : NoBad used
    pub ends : (b : Bool) → lasts b used ≡ true
    pub again : (m : ℕ) (more : List Token) → length used ≤ m → members p m (used ++ more) ≡ Some (ms, more)

  closes_again : (m : ℕ) (ms : Members) (more : List Token) → ms ≡ no_members → 1 ≤ m → members p m (end_object ∷ more) ≡ Some (ms, more)
  unfolding members
  closes_again zero ms more e le = let never : ⊥ = omega arith in absurd never
  closes_again (suc m) ms more e le = ap (λ x. Some (x, more)) (sym e)

  key_again : (m : ℕ) (k : List ℕ) (j : Json) (t s more : List Token) (ns ms : Members) → ms ≡ member k j ns → 1 ≤ m → p t ≡ Some (j, s) → members p (m - 1) s ≡ Some (ns, more)
      → members p m (key k ∷ t) ≡ Some (ms, more)
  key_again m k j t s more ns ms e le one rest = members_more p m k (key k ∷ t) t s j (omega arith) refl one ∙ ap (parse_map (member k j)) rest ∙ ap (λ x. Some (x, more)) (sym e)

  filled_by : (n : ℕ) (ts : List Token) (ms : Members) (r : List Token) → Local p → ((s : List Token) (ns : Members) → members p n s ≡ Some (ns, r) → Filled s ns r) → Keyed n ts ms r → Filled ts ms r
  filled_by n ts ms r each again (over e is) =
      record {
        used = end_object ∷ [];
        is = is;
        good = (refl, tt);
        ends = λ b. refl;
        again = λ m more le. closes_again m ms more e (omega arith);
      }
  filled_by n ts ms r each again (goes_on k j t s ns e is first rest) =
      let one : Taken p t j s = each t s j first in
      let two = again s ns rest in
      record {
        used = key k ∷ (one.used ++ two.used);
        is = is ∙ ap (λ l. key k ∷ l) (one.is ∙ ap (λ l. one.used ++ l) two.is ∙ sym (append_assoc one.used two.used r));
        good = (refl, no_bad_append one.used two.used one.good two.good);
        ends = λ b. lasts_append false one.used two.used ∙ ap (λ c. lasts c two.used) (one.ends false) ∙ two.ends true;
        again = λ m more le.
            ap (λ l. members p m (key k ∷ l)) (append_assoc one.used two.used more)
            ∙ key_again m k j (one.used ++ (two.used ++ more)) (two.used ++ more) more ns ms e (omega arith) (one.again (two.used ++ more)) (two.again (m - 1) more (omega (arith, one.some, length-append one.used two.used)));
      }

  pub filled : (n : ℕ) (ts : List Token) (ms : Members) (r : List Token) → Local p → members p n ts ≡ Some (ms, r) → Filled ts ms r
  filled zero ts ms r each h = no_key_turn ts ms r h
  filled (suc n) ts ms r each h = filled_by n ts ms r each (λ s ns k. filled n s ns r each k) (keyed n ts ms r h)
