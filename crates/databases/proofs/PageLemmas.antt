-- Pages of events, one behind the other.
use Rattle.std.proofs.Common.{◌≡◌, ◌∙◌, ◌≤◌, ◌+◌, ◌++◌, ◌-◌, ℕ, zero, suc, min, Bool, true, false, List, [], ◌∷◌, ap, arith, drop, length, refl, sym, take}
use Rattle.std.specs.Prelude.{Option, None, Some, filter}
use Rattle.std.proofs.lemmas.List.{drop-drop, length-drop, length-take}
use Rattle.attributes.specs.Event.{EventValue}
use Rattle.site.specs.Delta.{lacking_of}
use Rattle.databases.specs.steps.Left.{left_of}
use Rattle.databases.specs.declared.pages.Compared.{Compared}
use Rattle.databases.specs.Pages.{first_page, max_page, pages_below, pages_text}
use Rattle.databases.specs.Print.{batch_line}

drop_taken : {X : Type 0} (n : ℕ) (xs : List X) → drop (length (take n xs)) xs ≡ drop n xs
drop_taken zero xs = refl
drop_taken (suc n) [] = refl
drop_taken (suc n) (x ∷ xs) = drop_taken n xs

-- behind what was taken from a place stands what is left when as many are dropped
behind_taken : {X : Type 0} (place n : ℕ) (xs : List X) → drop (place + length (take n (drop place xs))) xs ≡ drop n (drop place xs)
behind_taken place n xs = sym (drop-drop (length (take n (drop place xs))) place xs) ∙ drop_taken n (drop place xs)

-- the place behind a page
pub behind_page : {X : Type 0} (place n count : ℕ) (xs : List X) → count ≡ length xs → drop (place + min n (count - place)) xs ≡ drop n (drop place xs)
behind_page place n count xs is =
    ap (λ k. drop (place + k) xs)
    (ap (min n) (ap (λ k. k - place) is ∙ sym (length-drop place xs)) ∙ sym (length-take n (drop place xs)))
    ∙ behind_taken place n xs

-- where no event is taken there is no page
pub no_page : (es : List EventValue) → length (take max_page es) ≡ 0 → first_page es ≡ None
no_page [] none = refl
no_page (e ∷ es) none = absurd (omega (arith, none))

-- where one is taken, those that are taken are the page
pub one_page : (es : List EventValue) → (length (take max_page es) ≡ 0 → ⊥) → first_page es ≡ Some (batch_line (take max_page es))
one_page [] some = absurd (some refl)
one_page (e ∷ es) some = refl

-- as many pages as there are events are all pages
enough : (m n : ℕ) (es : List EventValue) → length es ≤ m → length es ≤ n → pages_below m es ≡ pages_below n es
enough zero zero es low high = refl
enough zero (suc n) [] low high = refl
enough zero (suc n) (e ∷ es) low high = absurd (omega (arith, low))
enough (suc m) zero [] low high = refl
enough (suc m) zero (e ∷ es) low high = absurd (omega (arith, high))
enough (suc m) (suc n) [] low high = refl
enough (suc m) (suc n) (e ∷ es) low high =
    let fewer : length (drop max_page (e ∷ es)) ≡ length (e ∷ es) - max_page = length-drop max_page (e ∷ es) in
    ap (λ l. batch_line (take max_page (e ∷ es)) ++ l)
    (enough m n (drop max_page (e ∷ es)) (omega (arith, fewer, low)) (omega (arith, fewer, high)))

pub all_pages : (n : ℕ) (es : List EventValue) → length es ≤ n → pages_text es ≡ pages_below n es
all_pages n es high = enough (length es) n es (omega arith) high

filter_within : {X : Type 0} (p : X → Bool) (xs : List X) → length (filter p xs) ≤ length xs
filter_within p [] = omega arith
filter_within p (x ∷ xs) = step (p x) refl (filter_within p xs)
  where
    step : (b : Bool) → p x ≡ b → length (filter p xs) ≤ length xs → length (filter p (x ∷ xs)) ≤ length (x ∷ xs)
    step true e h = rw e (omega (arith, h))
    step false e h = rw e (omega (arith, h))

-- no more is left than there is
left_within : (E : List EventValue) (both : Option Compared) (place : ℕ) → length (left_of E both place) ≤ length E
left_within E None place = omega (arith, length-drop place E)
left_within E (Some both) place =
    let few : length (lacking_of E both.peer (drop place E)) ≤ length (drop place E) = filter_within _ (drop place E) in
    omega (arith, few, length-drop place E)

-- so all pages of what is left are those below the count of all
pub pages_left : (E : List EventValue) (both : Option Compared) (place n : ℕ) (es : List EventValue) → es ≡ left_of E both place → n ≡ length E
    → pages_text es ≡ pages_below n es
pages_left E both place n es is count =
    let same : length es ≡ length (left_of E both place) = ap length is in
    all_pages n es (omega (arith, left_within E both place, same, count))

-- and so where the first ones are passed
pub pages_dropped : (es : List EventValue) (place n : ℕ) (left : List EventValue) → left ≡ drop place es → n ≡ length es
    → pages_text left ≡ pages_below n left
pages_dropped es place n left is count =
    let same : length left ≡ length (drop place es) = ap length is in
    all_pages n left (omega (arith, length-drop place es, same, count))
