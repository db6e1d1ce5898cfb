-- Pages that are made an item at a time.
use Rattle.std.proofs.Common.{◌≡◌, ◌≢◌, ℕ, ◌+◌, ◌-◌, ◌<◌, ◌≤◌, suc, List, [], ◌∷◌, ◌++◌, length, take, drop, Some, slice_get, sym, ap, ◌∙◌, arith, length-append, append_assoc}
use Rattle.std.proofs.lemmas.List.{length-take}
use Rattle.std.proofs.lemmas.Option.{slice_get_within}
use Rattle.site.specs.Page.{page}
use Rattle.site.proofs.TakeLemmas.{get_further, take_next}

module _ {K : Type 0} where
  -- one more item of a page
  pub page_next : (L : List K) (from k : ℕ) (x : K) → slice_get L (from + k) ≡ Some x → take (k + 1) (drop from L) ≡ take k (drop from L) ++ x ∷ []
  page_next L from k x h = take_next (drop from L) k x (get_further L from k ∙ h)

  -- a page on which there is an item
  pub page_some : (L : List K) (from k limit : ℕ) (x : K) → slice_get L (from + k) ≡ Some x → 1 ≤ limit → page L from limit ≢ []
  page_some L from k limit x h low e =
      omega (arith, ap length e, length-take limit (drop from L), slice_get_within (drop from L) k x (get_further L from k ∙ h), low)

  -- what is left to be put on a page, whose items so far are b: M's first ones
  module _ (limit : ℕ) (b M T : List K) (x : K) (rest : List K) (first : M ≡ x ∷ rest) (less : length b < limit) (page : b ++ take (limit - length b) M ≡ T) where
    -- an item more
    pub page_more : (b ++ x ∷ []) ++ take (limit - length (b ++ x ∷ [])) rest ≡ T
    page_more =
        let e : suc (limit - length (b ++ x ∷ [])) ≡ limit - length b = omega (arith, length-append b (x ∷ []), less) in
        append_assoc b (x ∷ []) (take (limit - length (b ++ x ∷ [])) rest) ∙ ap (λ n. b ++ take n (x ∷ rest)) e ∙ ap (λ m. b ++ take (limit - length b) m) (sym first) ∙ page

    -- there is an item on the page
    pub page_has : T ≢ []
    page_has e =
        omega (arith, ap length (page ∙ e), length-append b (take (limit - length b) M), length-take (limit - length b) M, ap length first, less)

  -- what is behind a page that gets an item more
  pub rest_more : (limit : ℕ) (b M D : List K) (x : K) (rest : List K) → M ≡ x ∷ rest → length b < limit → drop (limit - length b) M ≡ D → drop (limit - length (b ++ x ∷ [])) rest ≡ D
  rest_more limit b M D x rest first less behind =
      let e : suc (limit - length (b ++ x ∷ [])) ≡ limit - length b = omega (arith, length-append b (x ∷ []), less) in
      ap (λ n. drop n (x ∷ rest)) e ∙ ap (drop (limit - length b)) (sym first) ∙ behind

  -- the first item passed
  pub drop_first : (M : List K) (x : K) (rest : List K) (n : ℕ) → M ≡ x ∷ rest → 0 < n → drop (n - 1) rest ≡ drop n M
  drop_first M x rest n first more =
      let e : suc (n - 1) ≡ n = omega (arith, more) in
      ap (λ k. drop k (x ∷ rest)) e ∙ ap (drop n) (sym first)
