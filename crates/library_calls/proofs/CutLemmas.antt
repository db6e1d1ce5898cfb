-- Where the texts lie that lie one behind the other, and the lines of parts.
use Rattle.std.proofs.Common.{arith, ◌≡◌, ◌∙◌, ◌≤◌, ◌<◌, ◌+◌, ◌++◌, ℕ, zero, suc, List, [], ◌∷◌, Result, Ok, Err, Some, ap, drop, get_or, inl, inr, length, map, min, refl, slice_get, subst, sum, sym, take}
use Rattle.std.specs.Prelude.{All, IsUtf8}
use Rattle.std.specs.Result.{IfErr, IfOk, OnErr, OnOk}
use Rattle.std.proofs.lemmas.List.{append-nil, append_assoc, drop-drop, drop-map, drop_min, take-map, take_min}
use Rattle.std.specs.Borrow.{Bor}
use Rattle.std.specs.List.{range_with_len}
use Rattle.std.specs.Prelude.{flat_map}
use Rattle.std.proofs.lemmas.List.Sums.{sum_by-cons, sum_by-take-le, sum_by_more}
use Rattle.std.proofs.lemmas.List.Elements.{All-get_or}
use Rattle.std.proofs.lemmas.Option.{get_or_from_slice_get, slice_get_within}
use Rattle.attributes.specs.Event.{EventValue}
use Rattle.parts.specs.Part.{of_parts}
use Rattle.parts.specs.Summaries.{AreApartSummaries, AreSummaries, IsSummaryOf}
use Rattle.parts.specs.declared.fault.CombineFault.{CombineFault}
use Rattle.parts.specs.declared.fault.CombineFault.TheVariants as fault
use Rattle.views.specs.declared.query.Query.{Query}
use Rattle.views.specs.declared.query.Query.TheVariants as query
use Rattle.library_calls.specs.Calls.{IsDoneOrWant, question_number}
use Rattle.library_calls.specs.Parts.{IsNoPartText, IsWholeSummary, TellsCombineFault, TellsCombineStatus, Texts, combine_status, cut, summaries_of, summary_lengths, summary_number}
use Rattle.library_calls.specs.declared.part_calls.CombineReply.{CombineReply}
use Rattle.library_calls.specs.declared.part_calls.TextFault.{TextFault}
use Rattle.library_calls.specs.declared.part_calls.TextFault.TheVariants as text

-- the text at a place
abbrev pub text_at : List ℕ → List ℕ → ℕ → List ℕ
text_at bytes lengths i = take (get_or lengths i 0) (drop (sum (take i lengths)) bytes)

-- it is that of the rest behind the first
behind : (bytes : List ℕ) (n : ℕ) (lengths : List ℕ) (i : ℕ) → text_at (drop n bytes) lengths i ≡ text_at bytes (n ∷ lengths) (suc i)
behind bytes n lengths i =
    ap (λ (l : List ℕ). take (get_or lengths i 0) l)
    (drop-drop (sum (take i lengths)) n bytes ∙ ap (λ m. drop m bytes) (sym (sum_by-cons (λ x. x) n (take i lengths))))

next : (bytes lengths : List ℕ) (i : ℕ) → i < length lengths
    → cut bytes (take (suc i) lengths) ≡ cut bytes (take i lengths) ++ text_at bytes lengths i ∷ []
next bytes [] i lt = absurd (omega (arith, lt))
next bytes (n ∷ lengths) zero lt = refl
next bytes (n ∷ lengths) (suc i) lt =
    ap (λ (t : List (List ℕ)). take n bytes ∷ t) (next (drop n bytes) lengths i (omega (arith, lt))
    ∙ ap (λ (t : List ℕ). cut (drop n bytes) (take i lengths) ++ t ∷ []) (behind bytes n lengths i))

-- one text more
pub cut_more : (bytes lengths : List ℕ) (i : ℕ) → i < length lengths
    → cut bytes (take (i + 1) lengths) ≡ cut bytes (take i lengths) ++ text_at bytes lengths i ∷ []
cut_more bytes lengths i lt =
    let e : i + 1 ≡ suc i = omega arith in ap (λ k. cut bytes (take k lengths)) e ∙ next bytes lengths i lt

-- the text at a place is that of the cut
pub cut_at : (bytes lengths : List ℕ) (i : ℕ) → i < length lengths
    → slice_get (cut bytes lengths) i ≡ Some (text_at bytes lengths i)
cut_at bytes [] i lt = absurd (omega (arith, lt))
cut_at bytes (n ∷ lengths) zero lt = refl
cut_at bytes (n ∷ lengths) (suc i) lt =
    cut_at (drop n bytes) lengths i (omega (arith, lt)) ∙ ap Some (behind bytes n lengths i)

-- the place of which a fault tells
abbrev place_of : TextFault → ℕ
place_of (text.NoText i) = i
place_of text.OutOfMemory = 0

-- a fault of the text at one place is one of no other
pub told : (bytes lengths : List ℕ) (i j : ℕ) → IsNoPartText bytes lengths i → text.NoText i ≡ text.NoText j → IsNoPartText bytes lengths j
told bytes lengths i j none same = subst (λ (k : ℕ). IsNoPartText bytes lengths k) (ap place_of same) none

-- the lengths up to a place and its own
pub sum_more : (lengths : List ℕ) (i : ℕ) → i < length lengths → sum (take (i + 1) lengths) ≡ sum (take i lengths) + get_or lengths i 0
sum_more lengths i lt = sum_by_more (λ x. x) lengths i 0 lt

-- one part more
next_part : {X : Type 0} (f : ℕ → List X) (a n : ℕ) → flat_map f (range_with_len a (suc n)) ≡ flat_map f (range_with_len a n) ++ f (a + n)
next_part f a zero = let e : a + 0 ≡ a = omega arith in append-nil (f a) ∙ ap f (sym e)
next_part f a (suc n) =
    let e : a + 1 + n ≡ a + suc n = omega arith in
    ap (λ t. f a ++ t) (next_part f (a + 1) n ∙ ap (λ m. flat_map f (range_with_len (a + 1) n) ++ f m) e)
    ∙ sym (append_assoc (f a) (flat_map f (range_with_len (a + 1) n)) (f (a + suc n)))

pub parts_more : {X : Type 0} (n : ℕ) (f : ℕ → List X) → of_parts (n + 1) f ≡ of_parts n f ++ f n
parts_more n f = let e : n + 1 ≡ suc n = omega arith in let z : 0 + n ≡ n = omega arith in
    ap (λ m. of_parts m f) e ∙ next_part f 0 n ∙ ap (λ m. of_parts n f ++ f m) z

-- the first of so many texts, of which there may be fewer
pub first_ones : (n : ℕ) (texts front : List (Bor (List ℕ))) → front ≡ take (min n (length texts)) texts
    → map (λ t. t.now) front ≡ take n (map (λ t. t.now) texts)
first_ones n texts front is =
    ap (map (λ t. t.now)) (is ∙ take_min n texts) ∙ sym (take-map (λ t. t.now) n texts)

-- the others
pub other_ones : (n : ℕ) (texts back : List (Bor (List ℕ))) → back ≡ drop (min n (length texts)) texts
    → map (λ t. t.now) back ≡ drop n (map (λ t. t.now) texts)
other_ones n texts back is =
    ap (map (λ t. t.now)) (is ∙ drop_min n texts) ∙ sym (drop-map (λ t. t.now) n texts)

-- what holds of all elements holds of the one at a place
at_place : {X : Type 0} (P : X → Type 0) (xs : List X) (i : ℕ) (x : X) → All P xs → slice_get xs i ≡ Some x → P x
at_place P xs i x all is =
    subst P (get_or_from_slice_get xs i x x is) (All-get_or P xs i x (slice_get_within xs i x is) all)

-- no text of texts that are all there is one that isn't
pub all_there : (bytes lengths : List ℕ) (i : ℕ) → sum lengths ≤ length bytes → All IsUtf8 (cut bytes lengths)
    → IsNoPartText bytes lengths i → ⊥
all_there bytes lengths i fit all (n, there, inl short) = omega (arith, fit, short, sum_by-take-le (λ x. x) lengths (i + 1))
all_there bytes lengths i fit all (n, there, inr (text, is, odd)) = odd (at_place IsUtf8 (cut bytes lengths) i text all is)

-- the question of a number
abbrev question_at : ℕ → Query
question_at (suc zero) = query.Cover
question_at (suc (suc zero)) = query.Shown
question_at (suc (suc (suc zero))) = query.Conflicts
question_at (suc (suc (suc (suc zero)))) = query.Latest
question_at (suc (suc (suc (suc (suc zero))))) = query.Kinds
question_at (suc (suc (suc (suc (suc (suc zero)))))) = query.Days
question_at _ = query.Gaps

own_question : (q : Query) → question_at (question_number q) ≡ q
own_question query.Cover = refl
own_question query.Shown = refl
own_question query.Conflicts = refl
own_question query.Latest = refl
own_question query.Kinds = refl
own_question query.Days = refl
own_question query.Gaps = refl

-- no two questions have one number
pub same_question : (number : ℕ) (q r : Query) → number ≡ question_number q → number ≡ question_number r → q ≡ r
same_question number q r one other = sym (own_question q) ∙ ap question_at (sym one ∙ other) ∙ own_question r

no_question : (q : Query) → summary_number ≡ question_number q → ⊥
no_question query.Cover h = cc
no_question query.Shown h = cc
no_question query.Conflicts h = cc
no_question query.Latest h = cc
no_question query.Kinds h = cc
no_question query.Days h = cc
no_question query.Gaps h = cc

-- the summary's number is that of no question
pub no_summary : (number : ℕ) (q : Query) → number ≡ question_number q → number ≡ summary_number → ⊥
no_summary number q question summary = no_question q (sym summary ∙ question)

-- what is made of the summaries that lie in bytes is the summary of the whole
pub summed_up : (given : Texts) (texts : List (List ℕ)) (r : Result (List ℕ) CombineFault) → texts ≡ summaries_of given → sum (summary_lengths given) ≤ length given.bytes
    → ((p : List ℕ → ℕ) (E : List EventValue) → AreSummaries p E texts → IfOk r (IsSummaryOf E)) → OnOk r (AreApartSummaries texts) → IfOk r (IsWholeSummary given)
summed_up given texts (Ok text) same there combined apart = record {
  there = there;
  combined = λ p E parts. combined p E (subst (AreSummaries p E) (sym same) parts);
  apart = subst AreApartSummaries same apart;
}
summed_up given texts (Err f) same there combined apart = tt

same_fault : (f g : CombineFault) (r : Result (List ℕ) CombineFault) → r ≡ Err f → r ≡ Err g → f ≡ g
same_fault f g r one other = cc

-- what is told of a result that wants memory alone
pub done_or_want : (P : List ℕ → Type 0) (Q : CombineFault → Type 0) (r : Result (List ℕ) CombineFault) (reply : CombineReply) → IfOk r (λ t. TellsCombineStatus 0 reply × P t)
    → IfErr r (λ f. TellsCombineFault f reply × Q f) → OnErr r (r ≡ Err fault.OutOfMemory) → IsDoneOrWant reply.status
done_or_want P Q (Ok text) reply ok err want = inl ok.0.0
done_or_want P Q (Err f) reply ok err want = inr (err.0.0 ∙ ap combine_status (same_fault f fault.OutOfMemory (Err f) refl want))
