-- What parts without a fault are.
use Rattle.std.proofs.Common.{◌≡◌, ◌∙◌, ◌≤◌, ℕ, Bool, true, false, ◌&&◌, List, [], ◌∷◌, length, Option, Some, None, refl, ap, ap₂, sym, subst, arith}
use Rattle.std.specs.Prelude.{if◌then◌else◌, nat_lt, nat_le, bytes_eq, codes, unwrap_or}
use Rattle.std.specs.List.{list_all, AllByRecursion}
use Rattle.std.proofs.lemmas.Bool.Decides.{nat_tests}
use Rattle.serde_json.specs.Data.{Data, null, boolean, number, string, array, object, depth}
use Rattle.serde_json.specs.Written.{has_float}
use Rattle.std.specs.Map.{keys_of}
use Rattle.attributes.specs.Members.{value_at}
use Rattle.attributes.specs.steps.Given.{FindsAt, given_words, is_allowed_value}
use Rattle.attributes.specs.Character.{is_filled, is_name}
use Rattle.attributes.specs.Event.{OfferValue, content_of, event_of, given_member, scalars_of, text, words_of, words_or_empty}
use Rattle.attributes.specs.Fault.{is_attribute, is_required, is_shallow, has_whole_numbers, first_failed, member_tests, member_fault, payload_tests, payload_fault, max_text, fault, given_all, offered_of, parts_of}
use Rattle.std.specs.Option.{option_or}
use Rattle.attributes.specs.declared.fault.Fault.{Fault}
use Rattle.attributes.specs.declared.scalar.Scalar.{Scalar}
use Rattle.attributes.specs.declared.scalar.Scalar.TheVariants as scalar
use Rattle.attributes.specs.declared.scalar.Given.{Given}
use Rattle.attributes.specs.declared.scalar.Given.TheVariants as given
use Rattle.attributes.specs.declared.content.Offered.{Offered}
use Rattle.attributes.specs.declared.content.Offered.TheVariants as offered
use Rattle.attributes.specs.declared.fault.Fault.TheVariants.{TooLarge}
use Rattle.attributes.proofs.BoolLemmas.{and_parts, not_true}

passes : (b : Bool) (f : Fault) (rest : Option Fault) → (if b then rest else Some f) ≡ None → (b ≡ true) × (rest ≡ None)
passes true f rest h = (refl, h)
passes false f rest h = cc

-- where no test fails, each passes
pub first_failed-None : (ts : List (Bool × Fault)) → first_failed ts ≡ None → AllByRecursion (λ t. t.0 ≡ true) ts
first_failed-None [] h = tt
first_failed-None (t ∷ ts) h = let both = passes t.0 t.1 (first_failed ts) h in (both.0, first_failed-None ts both.1)

pub names_pass : (ms : List (List ℕ × Given)) → member_fault ms ≡ None → list_all (λ m. is_name m.0) ms ≡ true
names_pass ms h = (first_failed-None (member_tests ms) h).1.1.1.1.1.1.1.1.0

pub values_pass : (ms : List (List ℕ × Given)) → member_fault ms ≡ None → list_all (λ m. is_attribute m.1) ms ≡ true
values_pass ms h = (first_failed-None (member_tests ms) h).1.1.1.1.1.1.1.1.1.0

pub numbers_pass : (o : Offered) → payload_fault o ≡ None → has_whole_numbers o ≡ true
numbers_pass o h = (first_failed-None (payload_tests o) h).1.1.0

pub depth_passes : (o : Offered) → payload_fault o ≡ None → is_shallow o ≡ true
depth_passes o h = (first_failed-None (payload_tests o) h).1.1.1.0

none_first : (o rest : Option Fault) → option_or o rest ≡ None → o ≡ None
none_first None rest h = refl
none_first (Some f) rest h = h

none_next : (o rest : Option Fault) → option_or o rest ≡ None → rest ≡ None
none_next None rest h = h
none_next (Some f) rest h = cc

pub no_member_fault : (p : OfferValue) → fault p ≡ None → member_fault p.members ≡ None
no_member_fault p h = none_first (member_fault p.members) _ h

pub no_payload_fault : (p : OfferValue) → fault p ≡ None → payload_fault p.offered ≡ None
no_payload_fault p h = none_first (payload_fault p.offered) _ (none_next (member_fault p.members) _ h)

pub fault-None : (p : OfferValue) → member_fault p.members ≡ None → payload_fault p.offered ≡ None → length (text (event_of p)) ≤ max_text → fault p ≡ None
fault-None p h k short =
    let fits : nat_lt max_text (length (text (event_of p))) ≡ false = grind (arith, nat_tests) in
    rw (h, k, fits) refl

pub fault-TooLarge : (p : OfferValue) → member_fault p.members ≡ None → payload_fault p.offered ≡ None → nat_lt max_text (length (text (event_of p))) ≡ true → fault p ≡ Some TooLarge
fault-TooLarge p h k long = rw (h, k, long) refl

-- ---- parts whose values pass are those of their event

given_again : (name : List ℕ) (g : Given) (ms : List (List ℕ × Given)) → is_attribute g ≡ true → given_all (scalars_of ms) ≡ ms → given_all (scalars_of ((name, g) ∷ ms)) ≡ (name, g) ∷ ms
given_again name (given.Flag b) ms h rest = ap (λ (r : List (List ℕ × Given)). (name, given.Flag b) ∷ r) rest
given_again name (given.Whole z) ms h rest = ap (λ (r : List (List ℕ × Given)). (name, given.Whole z) ∷ r) rest
given_again name (given.Words t) ms h rest = ap (λ (r : List (List ℕ × Given)). (name, given.Words t) ∷ r) rest
given_again name given.Other ms h rest = cc

pub given_all-scalars_of : (p : List (List ℕ × Given)) → list_all (λ m. is_attribute m.1) p ≡ true → given_all (scalars_of p) ≡ p
given_all-scalars_of [] h = refl
given_all-scalars_of (m ∷ ms) h = let both = and_parts (is_attribute m.1) _ h in given_again m.0 m.1 ms both.0 (given_all-scalars_of ms both.1)

keys_of-given : (attributes : List (List ℕ × Scalar)) → keys_of (given_all attributes) ≡ keys_of attributes
keys_of-given [] = refl
keys_of-given (a ∷ rest) = ap (λ ns. a.0 ∷ ns) (keys_of-given rest)

-- members whose values pass have the names of their event
pub keys_of-scalars_of : (ms : List (List ℕ × Given)) → list_all (λ m. is_attribute m.1) ms ≡ true → keys_of (scalars_of ms) ≡ keys_of ms
keys_of-scalars_of ms h = sym (keys_of-given (scalars_of ms)) ∙ ap keys_of (given_all-scalars_of ms h)

pub offered_fault : (o : Offered) → payload_fault o ≡ None → payload_fault (offered_of (content_of o)) ≡ None
offered_fault offered.Nothing h = refl
offered_fault (offered.Tree null) h = refl
offered_fault (offered.Tree (boolean b)) h = h
offered_fault (offered.Tree (number n)) h = h
offered_fault (offered.Tree (string s)) h = h
offered_fault (offered.Tree (array ds)) h = h
offered_fault (offered.Tree (object ms)) h = h
offered_fault (offered.Bytes b) h = refl
offered_fault offered.Both h = refl
offered_fault offered.Undecodable h = refl

pub content_of-offered_of : (o : Offered) → content_of (offered_of (content_of o)) ≡ content_of o
content_of-offered_of offered.Nothing = refl
content_of-offered_of (offered.Tree null) = refl
content_of-offered_of (offered.Tree (boolean b)) = refl
content_of-offered_of (offered.Tree (number n)) = refl
content_of-offered_of (offered.Tree (string s)) = refl
content_of-offered_of (offered.Tree (array ds)) = refl
content_of-offered_of (offered.Tree (object ms)) = refl
content_of-offered_of (offered.Bytes b) = refl
content_of-offered_of offered.Both = refl
content_of-offered_of offered.Undecodable = refl

-- an event of parts without a fault has none itself
pub fault-parts_of : (p : OfferValue) → member_fault p.members ≡ None → payload_fault p.offered ≡ None → length (text (event_of p)) ≤ max_text → fault (parts_of (event_of p)) ≡ None
fault-parts_of p h k short =
    let again : given_all (scalars_of p.members) ≡ p.members = given_all-scalars_of p.members (values_pass p.members h) in
    let same : event_of (parts_of (event_of p)) ≡ event_of p = ap₂ (λ a c. record { attributes = a; content = c }) (ap scalars_of again) (content_of-offered_of p.offered) in
    fault-None (parts_of (event_of p)) (ap member_fault again ∙ h) (offered_fault p.offered k) (subst (λ e. length (text e) ≤ max_text) (sym same) short)

-- what the payload tests tell of a tree
pub tree_numbers : (d : Data) → payload_fault (offered.Tree d) ≡ None → has_float d ≡ false
tree_numbers d h = not_true (has_float d) (numbers_pass (offered.Tree d) h)

pub tree_depth : (d : Data) → payload_fault (offered.Tree d) ≡ None → depth d ≤ 120
tree_depth d h = let low : nat_le (depth d) 120 ≡ true = depth_passes (offered.Tree d) h in grind (arith, nat_tests)

-- attributes that are given have the names that they were given
pub names_given : (attributes : List (List ℕ × Scalar)) → list_all (λ m. is_name m.0) (given_all attributes) ≡ true → list_all (λ a. is_name a.0) attributes ≡ true
names_given [] h = refl
names_given (a ∷ rest) h =
    let both = and_parts (is_name a.0) (list_all (λ m. is_name m.0) (given_all rest)) h in
    ap₂ (λ (x y : Bool). x && y) both.0 (names_given rest both.1)

pub named_scalars : (ms : List (List ℕ × Given)) → member_fault ms ≡ None → list_all (λ a. is_name a.0) (scalars_of ms) ≡ true
named_scalars ms h = names_given (scalars_of ms) (ap (λ (l : List (List ℕ × Given)). list_all (λ m. is_name m.0) l) (given_all-scalars_of ms (values_pass ms h)) ∙ names_pass ms h)

-- ---- texts of members, and of the attributes that they give

words_step : (name k : List ℕ) (g : Given) (ms : List (List ℕ × Given)) → is_attribute g ≡ true → given_words (value_at name ms) ≡ words_of (value_at name (scalars_of ms)) → given_words (value_at name ((k, g) ∷ ms)) ≡ words_of (value_at name (given_member k g (scalars_of ms)))
words_step name k (given.Flag f) ms h rest = elim (bytes_eq name k) as (λ b. given_words (if b then Some (given.Flag f) else value_at name ms) ≡ words_of (if b then Some (scalar.Flag f) else value_at name (scalars_of ms))) [ true ↦ refl | false ↦ rest ]
words_step name k (given.Whole z) ms h rest = elim (bytes_eq name k) as (λ b. given_words (if b then Some (given.Whole z) else value_at name ms) ≡ words_of (if b then Some (scalar.Whole z) else value_at name (scalars_of ms))) [ true ↦ refl | false ↦ rest ]
words_step name k (given.Words t) ms h rest = elim (bytes_eq name k) as (λ b. given_words (if b then Some (given.Words t) else value_at name ms) ≡ words_of (if b then Some (scalar.Words t) else value_at name (scalars_of ms))) [ true ↦ refl | false ↦ rest ]
words_step name k given.Other ms h rest = cc

pub given_words-words_of : (name : List ℕ) (ms : List (List ℕ × Given)) → list_all (λ m. is_attribute m.1) ms ≡ true → given_words (value_at name ms) ≡ words_of (value_at name (scalars_of ms))
given_words-words_of name [] h = refl
given_words-words_of name (m ∷ ms) h =
    let both = and_parts (is_attribute m.1) (list_all (λ n. is_attribute n.1) ms) h in
    words_step name m.0 m.1 ms both.0 (given_words-words_of name ms both.1)

or_empty : (o : Option Scalar) → unwrap_or (words_of o) [] ≡ words_or_empty o
or_empty None = refl
or_empty (Some (scalar.Flag b)) = refl
or_empty (Some (scalar.Whole z)) = refl
or_empty (Some (scalar.Words t)) = refl

pub given_words-or_empty : (name : List ℕ) (ms : List (List ℕ × Given)) → list_all (λ m. is_attribute m.1) ms ≡ true → unwrap_or (given_words (value_at name ms)) [] ≡ words_or_empty (value_at name (scalars_of ms))
given_words-or_empty name ms h = ap (λ (o : Option (List ℕ)). unwrap_or o []) (given_words-words_of name ms h) ∙ or_empty (value_at name (scalars_of ms))

-- the type is filled
filled_words : (o : Option Given) → is_required is_filled o ≡ true → is_filled (unwrap_or (given_words o) []) ≡ true
filled_words None h = cc
filled_words (Some (given.Flag b)) h = cc
filled_words (Some (given.Whole z)) h = cc
filled_words (Some (given.Words t)) h = h
filled_words (Some given.Other) h = cc

pub kind_passes : (ms : List (List ℕ × Given)) → member_fault ms ≡ None → is_filled (words_or_empty (value_at (codes "type") (scalars_of ms))) ≡ true
kind_passes ms h =
    sym (ap is_filled (given_words-or_empty (codes "type") ms (values_pass ms h)))
    ∙ filled_words (value_at (codes "type") ms) (first_failed-None (member_tests ms) h).1.1.1.0

-- where the values of all members pass, so does that of each name
pub value_at-passes : (name : List ℕ) (ms : List (List ℕ × Given)) → list_all (λ m. is_attribute m.1) ms ≡ true → is_allowed_value (value_at name ms) ≡ true
value_at-passes name [] h = refl
value_at-passes name (m ∷ ms) h =
    let both = and_parts (is_attribute m.1) (list_all (λ n. is_attribute n.1) ms) h in
    elim (bytes_eq name m.0) as (λ b. is_allowed_value (if b then Some m.1 else value_at name ms) ≡ true) [ true ↦ both.0 | false ↦ value_at-passes name ms both.1 ]

-- ---- one pass over the members

-- where the first of the rest was tested too, what was tested and the rest are still all
pub all_more : {X : Type 0} (f : X → Bool) (before found whole : Bool) (x : X) (all rest : List X) → all ≡ x ∷ rest → found ≡ (before && f x) → (before && list_all f all) ≡ whole → (found && list_all f rest) ≡ whole
all_more f true found whole x all rest is tested h = ap (λ b. b && list_all f rest) tested ∙ ap (list_all f) (sym is) ∙ h
all_more f false found whole x all rest is tested h = ap (λ b. b && list_all f rest) tested ∙ h

-- what was found at a name before a member and in it, or else in the rest, is what all have there
pub found_more : (sought name : List ℕ) (given : Given) (before after : Option Given) (all rest : List (List ℕ × Given)) (whole : Option Given) → FindsAt sought name given before after → all ≡ (name, given) ∷ rest → option_or before (value_at sought all) ≡ whole → option_or after (value_at sought rest) ≡ whole
found_more sought name given before after all rest whole finds is h = finds rest ∙ ap (λ ms. option_or before (value_at sought ms)) (sym is) ∙ h
