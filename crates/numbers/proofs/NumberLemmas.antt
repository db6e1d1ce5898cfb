-- Numbers of events in a list.
use Rattle.std.proofs.Common.{◌≡◌, ℕ, suc, ◌+◌, ◌≤◌, List, [], ◌∷◌, ◌++◌, Bool, true, false, cond, ◌||◌, bytes_eq, if◌then◌else◌, length, map, refl, sym, ap, ◌∙◌, arith, true≢false, is_eq}
use Rattle.std.specs.declared.cmp.Ordering.{Ordering}
use Rattle.std.specs.declared.cmp.Ordering.TheVariants.{Less, Equal, Greater}
use Rattle.std.specs.Ordering.{ordering_then}
use Rattle.std.specs.List.{AllByRecursion, range_with_len}
use Rattle.std.proofs.lemmas.Cmp.{tied_itself}
use Rattle.std.proofs.lemmas.Map.Lookups.{exact_bytes}
use Rattle.std.proofs.lemmas.Map.Text.{is_eq-slice_cmp}
use Rattle.attributes.specs.Bytes.{byte_cmp}
use Rattle.attributes.specs.Event.{EventValue, source_of}
use Rattle.inbox.specs.KeyOrder.{key_cmp, pair_cmp, text_cmp}
use Rattle.inbox.specs.Ordered.{has}
use Rattle.inbox.proofs.OrderLemmas.{key_cmp_total}
use Rattle.inbox.proofs.SetLemmas.{append_new-append, has-from_Contains, tied_back}
use Rattle.numbers.specs.Counts.{KnowsOnly, TextNumbers}
use Rattle.numbers.specs.Numberer.{IsEachOnce, answers, answers_in_turn, is_of_source, number, of_source, place_in, taken, up_to}
use Rattle.numbers.specs.Law.{AnswersStay, BatchesJoin, NumbersTell, OwnSource}
use Rattle.numbers.proofs.ListLemmas.{Distinct, all_map, all_there, distinct, grown, itself, map_both, map_filter_same, map_passing, map_same, none_new, stays, stays_once, there, untied}

first_equal : (r s : Ordering) → ordering_then r s ≡ Equal → r ≡ Equal
first_equal Less s h = cc
first_equal Equal s h = refl
first_equal Greater s h = cc

pub same_source : (e f : EventValue) → key_cmp e f ≡ Equal → source_of e ≡ source_of f
same_source e f h = exact_bytes (source_of e) (source_of f) (first_equal _ _ (first_equal (pair_cmp e f) (text_cmp e f) h))

equal_from : (r : Ordering) → is_eq r ≡ true → r ≡ Equal
equal_from Less h = absurd (true≢false (sym h))
equal_from Equal h = refl
equal_from Greater h = absurd (true≢false (sym h))

pub source_is : (s : List ℕ) (e : EventValue) → is_of_source s e ≡ true → source_of e ≡ s
source_is s e h = exact_bytes (source_of e) s (equal_from _ (is_eq-slice_cmp (source_of e) s ∙ h))

pub is_source : (s : List ℕ) (e : EventValue) → source_of e ≡ s → is_of_source s e ≡ true
is_source s e h = ap (λ t. bytes_eq t s) h ∙ sym (is_eq-slice_cmp s s) ∙ ap is_eq (byte_itself s)
  where
    byte_itself : (t : List ℕ) → byte_cmp t t ≡ Equal
    byte_itself t = tied_itself Rattle.std.proofs.lemmas.Cmp.nat_list_cmp_total t

-- ---- what grows behind an event leaves its number

pub up_to_stays : (A B : List EventValue) (e : EventValue) → has key_cmp A e ≡ true → up_to e (A ++ B) ≡ up_to e A
up_to_stays [] B e h = absurd (true≢false (sym h))
up_to_stays (x ∷ xs) B e h = by (is_eq (key_cmp e x)) h (up_to_stays xs B e)
  where
    by : (b : Bool) → (b || has key_cmp xs e) ≡ true → (has key_cmp xs e ≡ true → up_to e (xs ++ B) ≡ up_to e xs) → x ∷ (if b then [] else up_to e (xs ++ B)) ≡ x ∷ (if b then [] else up_to e xs)
    by true g f = refl
    by false g f = ap (λ l. x ∷ l) (f g)

pub number_stays : (base : List ℕ → ℕ) (A L : List EventValue) (e : EventValue) → has key_cmp A e ≡ true → number base (taken A L) e ≡ number base A e
number_stays base A L e h =
    let g = grown key_cmp_total A L in
    ap (λ l. base (source_of e) + length (of_source (source_of e) l)) (ap (up_to e) g.1 ∙ up_to_stays A g.0 e h)

-- what is known of a list's texts is so when the list grew
pub only_stays : (base : List ℕ → ℕ) (A L : List EventValue) (K : TextNumbers) → KnowsOnly base A K → KnowsOnly base (taken A L) K
only_stays base A L K only e n event at =
    let it = only e n event at in
    (stays key_cmp_total A L e it.0, it.1 ∙ sym (number_stays base A L e it.0))

pub only_none : (base : List ℕ → ℕ) (A : List EventValue) → KnowsOnly base A []
only_none base A e n event at = absurd (cc)

answers_again : (base : List ℕ → ℕ) (A L M : List EventValue) → answers base (taken (taken A L) M) L ≡ answers base A L
answers_again base A L M =
    let T = taken A L in
    let inside = all_there key_cmp_total A L in
    let later = all_map (λ e. has key_cmp T e ≡ true) (λ e. has key_cmp (taken T M) e ≡ true) (stays key_cmp_total T M) L inside in
    ap (λ B. map (number base B) L) (none_new key_cmp_total (taken T M) L later)
    ∙ map_same (number base (taken T M)) (number base T) L (all_map (λ e. has key_cmp T e ≡ true) (λ e. number base (taken T M) e ≡ number base T e) (number_stays base T M) L inside)

pub answers_stay : AnswersStay
answers_stay = record {
  kept = number_stays;
  again = answers_again;
  there = λ A L e c. there key_cmp_total A L e (has-from_Contains key_cmp_total L e c);
  same_list = λ A L. none_new key_cmp_total (taken A L) L (all_there key_cmp_total A L);
  once = stays_once key_cmp_total;
}

-- ---- batches

joined_answers : (base : List ℕ → ℕ) (A L M : List EventValue) → answers base A (L ++ M) ≡ answers base A L ++ answers base (taken A L) M
joined_answers base A L M =
    let T = taken A L in
    ap (λ B. map (number base B) (L ++ M)) (append_new-append key_cmp_total A L M)
    ∙ map_both (number base (taken T M)) L M
    ∙ ap (λ l. l ++ map (number base (taken T M)) M) (map_same (number base (taken T M)) (number base T) L (all_map (λ e. has key_cmp T e ≡ true) (λ e. number base (taken T M) e ≡ number base T e) (number_stays base T M) L (all_there key_cmp_total A L)))

in_turn : (base : List ℕ → ℕ) (A L : List EventValue) → answers_in_turn base A L ≡ answers base A L
in_turn base A [] = refl
in_turn base A (e ∷ L) =
    let B = taken A (e ∷ []) in
    let first : number base B e ≡ number base (taken B L) e = sym (number_stays base B L e (there key_cmp_total A (e ∷ []) e (itself key_cmp_total e []))) in
    (λ k. first k ∷ in_turn base B L k)

pub batches_join : BatchesJoin
batches_join = record { list = append_new-append key_cmp_total; joined = joined_answers; in_turn = in_turn }

-- ---- no gap

one_on : (s : List ℕ) (x : EventValue) (l : List EventValue) → is_of_source s x ≡ true → length (of_source s (x ∷ l)) ≡ suc (length (of_source s l))
one_on s x l h = ap (λ b. length (cond b (x ∷ of_source s l) (of_source s l))) h

none_on : (s : List ℕ) (x : EventValue) (l : List EventValue) → is_of_source s x ≡ false → length (of_source s (x ∷ l)) ≡ length (of_source s l)
none_on s x l h = ap (λ b. length (cond b (x ∷ of_source s l) (of_source s l))) h

past : (s : List ℕ) (x : EventValue) (xs : List EventValue) (e : EventValue) → is_eq (key_cmp e x) ≡ false → place_in s (x ∷ xs) e ≡ length (of_source s (x ∷ up_to e xs))
past s x xs e h = ap (λ b. length (of_source s (x ∷ (if b then [] else up_to e xs)))) h

runs : (b : ℕ) (s : List ℕ) (A : List EventValue) → Distinct key_cmp_total A → map (λ e. b + place_in s A e) (of_source s A) ≡ range_with_len (b + 1) (length (of_source s A))
runs b s [] d = refl
runs b s (x ∷ xs) d = by (is_of_source s x) refl (λ n. runs n s xs d.1)
  where
    apart : AllByRecursion (λ e. is_eq (key_cmp e x) ≡ false) xs
    apart = untied key_cmp_total xs x d.0

    by : (c : Bool) → is_of_source s x ≡ c → ((n : ℕ) → map (λ e. n + place_in s xs e) (of_source s xs) ≡ range_with_len (n + 1) (length (of_source s xs))) → map (λ e. b + place_in s (x ∷ xs) e) (cond c (x ∷ of_source s xs) (of_source s xs)) ≡ range_with_len (b + 1) (length (cond c (x ∷ of_source s xs) (of_source s xs)))
    by true h f =
        let own : place_in s (x ∷ xs) x ≡ 1 = ap (λ r. length (of_source s (x ∷ (if is_eq r then [] else up_to x xs)))) (tied_itself key_cmp_total x) ∙ one_on s x [] h in
        let first : b + place_in s (x ∷ xs) x ≡ b + 1 = ap (λ n. b + n) own in
        let step : (e : EventValue) → is_eq (key_cmp e x) ≡ false → b + place_in s (x ∷ xs) e ≡ (b + 1) + place_in s xs e =
        λ e t. let p : place_in s (x ∷ xs) e ≡ suc (place_in s xs e) = past s x xs e t ∙ one_on s x (up_to e xs) h in omega (arith, p) in
        let rest = map_filter_same (is_of_source s) (λ e. b + place_in s (x ∷ xs) e) (λ e. (b + 1) + place_in s xs e) xs (all_map (λ e. is_eq (key_cmp e x) ≡ false) (λ e. b + place_in s (x ∷ xs) e ≡ (b + 1) + place_in s xs e) step xs apart) in
        (λ k. first k ∷ (rest ∙ f (b + 1)) k)
    by false h f =
        let step : (e : EventValue) → is_eq (key_cmp e x) ≡ false → b + place_in s (x ∷ xs) e ≡ b + place_in s xs e =
        λ e t. ap (λ n. b + n) (past s x xs e t ∙ none_on s x (up_to e xs) h) in
        map_filter_same (is_of_source s) (λ e. b + place_in s (x ∷ xs) e) (λ e. b + place_in s xs e) xs (all_map (λ e. is_eq (key_cmp e x) ≡ false) (λ e. b + place_in s (x ∷ xs) e ≡ b + place_in s xs e) step xs apart)
        ∙ f b

pub no_gap : (base : List ℕ → ℕ) (A : List EventValue) (source : List ℕ) → IsEachOnce A → map (number base A) (of_source source A) ≡ range_with_len (base source + 1) (length (of_source source A))
no_gap base A s once =
    map_passing (is_of_source s) (number base A) (λ e. base s + place_in s A e) (λ e h. ap (λ t. base t + place_in t A e) (source_is s e h)) A
    ∙ runs (base s) s A (distinct key_cmp_total A once)

-- ---- numbers tell texts

up_to_ties : (A : List EventValue) (e f : EventValue) → key_cmp e f ≡ Equal → up_to e A ≡ up_to f A
up_to_ties [] e f t = refl
up_to_ties (x ∷ xs) e f t =
    ap (λ r. x ∷ (if is_eq r then [] else up_to e xs)) (key_cmp_total.congr e f x t)
    ∙ ap (λ l. x ∷ (if is_eq (key_cmp f x) then [] else l)) (up_to_ties xs e f t)

one_number : (base : List ℕ → ℕ) (A : List EventValue) (e f : EventValue) → key_cmp e f ≡ Equal → number base A e ≡ number base A f
one_number base A e f t =
    ap (λ l. base (source_of e) + length (of_source (source_of e) l)) (up_to_ties A e f t)
    ∙ ap (λ s. base s + place_in s A f) (same_source e f t)

-- an event that is there has a place
placed : (s : List ℕ) (A : List EventValue) (f : EventValue) → source_of f ≡ s → has key_cmp A f ≡ true → 1 ≤ place_in s A f
placed s [] f is h = absurd (true≢false (sym h))
placed s (x ∷ xs) f is h = by (is_eq (key_cmp f x)) refl h (placed s xs f is)
  where
    more : (c : Bool) (l : List EventValue) → 1 ≤ length (of_source s l) → 1 ≤ length (cond c (x ∷ of_source s l) (of_source s l))
    more true l g = omega arith
    more false l g = g

    by : (b : Bool) → is_eq (key_cmp f x) ≡ b → (b || has key_cmp xs f) ≡ true → (has key_cmp xs f ≡ true → 1 ≤ place_in s xs f) → 1 ≤ length (of_source s (x ∷ (if b then [] else up_to f xs)))
    by true t g r = let p = one_on s x [] (is_source s x (sym (same_source f x (equal_from (key_cmp f x) t)) ∙ is)) in omega (arith, p)
    by false t g r = more (is_of_source s x) (up_to f xs) (r g)

tells : (s : List ℕ) (A : List EventValue) (e f : EventValue) → source_of e ≡ s → source_of f ≡ s → has key_cmp A e ≡ true → has key_cmp A f ≡ true → place_in s A e ≡ place_in s A f → key_cmp e f ≡ Equal
tells s [] e f se sf he hf p = absurd (true≢false (sym he))
tells s (x ∷ xs) e f se sf he hf p = by (is_eq (key_cmp e x)) (is_eq (key_cmp f x)) refl refl he hf p (tells s xs e f se sf)
  where
    own : (g : EventValue) → source_of g ≡ s → is_eq (key_cmp g x) ≡ true → is_of_source s x ≡ true
    own g is t = is_source s x (sym (same_source g x (equal_from (key_cmp g x) t)) ∙ is)

    both : (c : Bool) (l m : List EventValue) → length (cond c (x ∷ of_source s l) (of_source s l)) ≡ length (cond c (x ∷ of_source s m) (of_source s m)) → length (of_source s l) ≡ length (of_source s m)
    both true l m q = omega (arith, q)
    both false l m q = q

    by : (b c : Bool) → is_eq (key_cmp e x) ≡ b → is_eq (key_cmp f x) ≡ c → (b || has key_cmp xs e) ≡ true → (c || has key_cmp xs f) ≡ true
        → length (of_source s (x ∷ (if b then [] else up_to e xs))) ≡ length (of_source s (x ∷ (if c then [] else up_to f xs)))
        → (has key_cmp xs e ≡ true → has key_cmp xs f ≡ true → place_in s xs e ≡ place_in s xs f → key_cmp e f ≡ Equal) → key_cmp e f ≡ Equal
    by true true t u he hf q r = key_cmp_total.congr e x f (equal_from (key_cmp e x) t) ∙ tied_back key_cmp_total f x (equal_from (key_cmp f x) u)
    by true false t u he hf q r =
        let one = one_on s x [] (own e se t) in
        let two = one_on s x (up_to f xs) (own e se t) in
        let far = placed s xs f sf hf in
        absurd (omega (arith, one, two, far, q))
    by false true t u he hf q r =
        let one = one_on s x [] (own f sf u) in
        let two = one_on s x (up_to e xs) (own f sf u) in
        let far = placed s xs e se he in
        absurd (omega (arith, one, two, far, q))
    by false false t u he hf q r = r he hf (both (is_of_source s x) (up_to e xs) (up_to f xs) q)

one_text : (base : List ℕ → ℕ) (A : List EventValue) (e f : EventValue) → has key_cmp A e ≡ true → has key_cmp A f ≡ true → source_of e ≡ source_of f → number base A e ≡ number base A f → key_cmp e f ≡ Equal
one_text base A e f he hf s n =
    let p : base (source_of e) + place_in (source_of e) A e ≡ base (source_of e) + place_in (source_of e) A f = n ∙ ap (λ t. base t + place_in t A f) (sym s) in
    tells (source_of e) A e f refl (sym s) he hf (omega (arith, p))

pub numbers_tell : NumbersTell
numbers_tell = record { one_number = one_number; one_text = one_text }

-- ---- other sources

own_only : (s : List ℕ) (A : List EventValue) (e : EventValue) → source_of e ≡ s → of_source s (up_to e (of_source s A)) ≡ of_source s (up_to e A)
own_only s [] e is = refl
own_only s (x ∷ xs) e is = by (is_of_source s x) (is_eq (key_cmp e x)) refl refl (own_only s xs e is)
  where
    by : (c b : Bool) → is_of_source s x ≡ c → is_eq (key_cmp e x) ≡ b → of_source s (up_to e (of_source s xs)) ≡ of_source s (up_to e xs)
        → of_source s (up_to e (cond c (x ∷ of_source s xs) (of_source s xs))) ≡ of_source s (x ∷ (if b then [] else up_to e xs))
    by true true h t r = ap (λ b. of_source s (x ∷ (if b then [] else up_to e (of_source s xs)))) t
    by true false h t r = ap (λ b. of_source s (x ∷ (if b then [] else up_to e (of_source s xs)))) t ∙ ap (λ l. cond (is_of_source s x) (x ∷ l) l) r
    by false true h t r = absurd (true≢false (sym (is_source s x (sym (same_source e x (equal_from (key_cmp e x) t)) ∙ is)) ∙ h))
    by false false h t r = r ∙ sym (ap (λ c. cond c (x ∷ of_source s (up_to e xs)) (of_source s (up_to e xs))) h)

pub own_source : OwnSource
own_source base A e = ap (λ l. base (source_of e) + length l) (own_only (source_of e) A e refl)
