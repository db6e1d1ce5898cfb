-- A part of a list, page by page.
use Rattle.std.proofs.Common.{◌≡◌, ◌≤◌, ◌<◌, ◌≢◌, ◌+◌, ◌-◌, ◌*◌, ◌⊎◌, ◌∙◌, ◌++◌, ◌∷◌, ℕ, zero, suc, List, [], ap, drop, length, min, subst, sym, take, arith, inl, inr}
use Rattle.std.proofs.lemmas.Bool.{cases_lt}
use Rattle.std.proofs.lemmas.List.Sums.{sum_by-append}
use Rattle.std.proofs.lemmas.List.{drop-drop, length-drop, length-take, nil_from_length, take-append-le, take_all, take_min}
use Rattle.attributes.specs.Event.{EventValue, text}
use Rattle.site.specs.Page.{page}
use Rattle.library_calls.specs.Sets.{IsBounded, bytes_of}

-- a list from two ends
take_then : (a b : ℕ) (L : List EventValue) → take a L ++ take b (drop a L) ≡ take (a + b) L
take_then zero b L = let same : b ≡ zero + b = omega arith in ap (λ n. take n L) same
take_then (suc a) b [] = take_all b [] (omega arith) ∙ sym (take_all (suc a + b) [] (omega arith))
take_then (suc a) b (e ∷ L) =
    let same : suc (a + b) ≡ suc a + b = omega arith in
    ap (λ (l : List EventValue). e ∷ l) (take_then a b L) ∙ ap (λ n. take n (e ∷ L)) same

-- bytes of texts, and a front of a list
pub bytes_both : (A B : List EventValue) → bytes_of (A ++ B) ≡ bytes_of A + bytes_of B
bytes_both A B = sum_by-append (λ e. length (text e)) A B

take_whole : (n : ℕ) (A B : List EventValue) → n ≡ length A → take n (A ++ B) ≡ A
take_whole n A B same = take-append-le n A B (omega (arith, same)) ∙ take_all n A (omega (arith, same))

-- of a list from a place on these are the first ones, after so many pages
pub record IsSoFar (D : List EventValue) (from limit i : ℕ) (part : List EventValue) : Type 0 where
  pub next : part ≡ page D from (length part)
  pub few : length part ≤ limit
  pub pages : (length part ≡ min (i * 100) limit) ⊎ (part ≡ page D from limit)

pub none_yet : (D : List EventValue) (from limit : ℕ) (part : List EventValue) → part ≡ [] → IsSoFar D from limit 0 part
none_yet D from limit part none =
    let long : length part ≡ 0 = ap (λ (l : List EventValue). length l) none in record {
      next = none ∙ ap (λ n. take n (drop from D)) (sym long);
      few = omega (arith, long);
      pages = inl (omega (arith, long));
    }

module _ (D : List EventValue) (from limit i : ℕ) (part : List EventValue) (was : IsSoFar D from limit i part) where
  abbrev R : List EventValue
  R = drop from D

  long : length part ≡ min (length part) (length R)
  long = ap (λ (l : List EventValue). length l) was.next ∙ length-take (length part) R

  all_of : length R ≤ length part → part ≡ page D from limit
  all_of h = was.next ∙ take_all (length part) R h ∙ sym (take_all limit R (omega (arith, h, was.few)))

  pub full : limit ≤ length part → part ≡ page D from limit
  full h = let same : length part ≡ limit = omega (arith, h, was.few) in was.next ∙ ap (λ n. take n R) same

  pub ended : limit ≤ 2000 → 20 ≤ i → part ≡ page D from limit
  ended most h = elim was.pages [
    | inl so_far ↦ full (omega (arith, so_far, most, h))
    | inr all ↦ all
  ]

  pub page_first : 1 ≤ i → min 100 (length (page D from limit)) ≤ length part
  page_first h =
      let most : length (page D from limit) ≡ min limit (length R) = length-take limit R in
      elim was.pages [
        | inl so_far ↦ omega (arith, so_far, most, h)
        | inr all ↦ (let same = ap (λ (l : List EventValue). length l) all in omega (arith, same))
      ]

  module _ (m : ℕ) (more : List EventValue) (count : m ≡ min (limit - length part) 100) (some : length part < limit) (is : more ≡ page D (from + length part) m) where
    rest : more ≡ take m (drop (length part) R)
    rest = is ∙ ap (λ (l : List EventValue). take m l) (sym (drop-drop (length part) from D))

    more_long : length more ≡ min m (length R - length part)
    more_long = ap (λ (l : List EventValue). length l) rest ∙ length-take m (drop (length part) R) ∙ ap (λ n. min m n) (length-drop (length part) R)

    pub no_more : more ≡ [] → part ≡ page D from limit
    no_more none =
        let nothing : length more ≡ 0 = ap (λ (l : List EventValue). length l) none in
        all_of (omega (arith, nothing, more_long, count, some))

    both : part ++ more ≡ take (length part + m) R
    both = ap (λ (l : List EventValue). l ++ more) was.next ∙ ap (λ (l : List EventValue). take (length part) R ++ l) rest ∙ take_then (length part) m R

    both_long : length (part ++ more) ≡ min (length part + m) (length R)
    both_long = ap (λ (l : List EventValue). length l) both ∙ length-take (length part + m) R

    pub goes_on : IsSoFar D from limit (i + 1) (part ++ more)
    goes_on = record {
      next = both ∙ sym (take_min (length part + m) R) ∙ ap (λ n. take n R) (sym both_long);
      few = omega (arith, both_long, count, some);
      pages = elim (cases_lt (length R) (length part + m)) [
        | inl short ↦ inr (both ∙ take_all (length part + m) R (omega (arith, short)) ∙ sym (take_all limit R (omega (arith, short, count, some))))
        | inr enough ↦ elim was.pages [
          | inl so_far ↦ inl (omega (arith, so_far, both_long, enough, count, some))
          | inr all ↦ (let same = ap (λ (l : List EventValue). length l) all ∙ length-take limit R in absurd (omega (arith, same, enough, count, some)))
        ]
      ];
    }

    full_pages : (more ≡ [] → ⊥) → length part ≡ i * 100
    full_pages there = elim was.pages [
      | inl so_far ↦ omega (arith, so_far, some)
      | inr all ↦ (let same = ap (λ (l : List EventValue). length l) all ∙ length-take limit R in
          absurd (there (nil_from_length more (omega (arith, same, some, more_long)))))
    ]

    -- the pages before stay within the bytes that are asked for
    pub bounded_on : (size : ℕ) → IsBounded size part → (size ≢ 0 → bytes_of part < size) → (more ≡ [] → ⊥) → IsBounded size (part ++ more)
    bounded_on size within below there given pages before =
        let full = full_pages there in
        let all = both_long in
        elim (cases_lt (pages * 100) (length part)) [
          | inl front ↦ subst (λ (l : List EventValue). bytes_of l < size) (sym (take-append-le (pages * 100) part more (omega (arith, front)))) (within given pages front)
          | inr rest ↦ (let same : pages * 100 ≡ length part = omega (arith, full, rest, before, all, count) in
              subst (λ (l : List EventValue). bytes_of l < size) (sym (take_whole (pages * 100) part more same)) (below given))
        ]
