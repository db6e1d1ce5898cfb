-- How rows grow with the events that they are of.
use Rattle.std.proofs.Common.{◌≡◌, ℕ, List, [], ◌∷◌, ◌++◌, Bool, true, false, ◌||◌, if◌then◌else◌, Some, refl, sym, ap, ap₂, subst, ◌∙◌, true≢false, is_eq}
use Rattle.std.specs.declared.cmp.Ordering.{Ordering}
use Rattle.std.specs.declared.cmp.Ordering.TheVariants.{Less, Equal, Greater}
use Rattle.std.specs.Ordering.{ordering_then}
use Rattle.std.specs.List.{AllByRecursion}
use Rattle.std.proofs.lemmas.Cmp.{tied_itself}
use Rattle.std.proofs.lemmas.Map.Lookups.{exact_bytes}
use Rattle.attributes.specs.Event.{EventValue, text}
use Rattle.attributes.specs.Fault.{IsEvent}
use Rattle.attributes.proofs.LawLemmas.{same_text}
use Rattle.inbox.specs.KeyOrder.{key_cmp, pair_cmp, text_cmp}
use Rattle.inbox.specs.Ordered.{append_new, has}
use Rattle.inbox.proofs.OrderLemmas.{key_cmp_total}
use Rattle.numbers.specs.Numbered.{AreBare, HasNumber, HaveNumbers, IsBare, with_sequence}
use Rattle.numbers.proofs.DigitLemmas.{one_text}
use Rattle.numbers.proofs.NumberedLemmas.{numbered_events}

equal_from : (r : Ordering) → is_eq r ≡ true → r ≡ Equal
equal_from Less h = absurd (true≢false (sym h))
equal_from Equal h = refl
equal_from Greater h = absurd (true≢false (sym h))

last_equal : (r s : Ordering) → ordering_then r s ≡ Equal → s ≡ Equal
last_equal Less s h = cc
last_equal Equal s h = h
last_equal Greater s h = cc

-- events that tie are one
pub one_event : (e f : EventValue) → IsEvent e → IsEvent f → is_eq (key_cmp e f) ≡ true → e ≡ f
one_event e f he hf h = same_text e f he hf (exact_bytes (text e) (text f) (last_equal (pair_cmp e f) (text_cmp e f) (equal_from (key_cmp e f) h)))

itself : (e f : EventValue) → e ≡ f → is_eq (key_cmp e f) ≡ true
itself e f h = ap (λ g. is_eq (key_cmp e g)) (sym h) ∙ ap is_eq (tied_itself key_cmp_total e)

module _ (n : EventValue → ℕ) where
  -- with their numbers two events tie just where they do without
  same_tie : (e a x d : EventValue) → IsBare e → IsBare a → IsEvent x → IsEvent d → HasNumber (n e) e x → HasNumber (n a) a d → is_eq (key_cmp e a) ≡ is_eq (key_cmp x d)
  same_tie e a x d he ha hx hd one two = by (is_eq (key_cmp e a)) (is_eq (key_cmp x d)) refl refl
    where
      with_them : e ≡ a → x ≡ d
      with_them same =
          let digits : one.digits ≡ two.digits = one_text one.digits two.digits (n a) (one.number ∙ ap (λ g. Some (n g)) same) two.number in
          one.is ∙ ap₂ (λ t g. with_sequence t g) digits same ∙ sym two.is

      without_them : x ≡ d → e ≡ a
      without_them same = (numbered_events.injective e a one.digits two.digits he.none ha.none (sym one.is ∙ same ∙ two.is)).0

      by : (b c : Bool) → is_eq (key_cmp e a) ≡ b → is_eq (key_cmp x d) ≡ c → is_eq (key_cmp e a) ≡ is_eq (key_cmp x d)
      by true c h g = h ∙ sym (itself x d (with_them (one_event e a he.event ha.event h)))
      by false true h g = itself e a (without_them (one_event x d hx hd g)) ∙ sym g
      by false false h g = h ∙ sym g

  same_has : (A D : List EventValue) (e x : EventValue) → AreBare A → AllByRecursion IsEvent D → IsBare e → IsEvent x → HaveNumbers n A D → HasNumber (n e) e x → has key_cmp A e ≡ has key_cmp D x
  same_has [] [] e x a w he hx h one = refl
  same_has [] (d ∷ D) e x a w he hx h one = absurd h
  same_has (b ∷ A) [] e x a w he hx h one = absurd h
  same_has (b ∷ A) (d ∷ D) e x a w he hx h one = ap₂ (λ (p q : Bool). p || q) (same_tie e b x d he a.0 hx w.0 one h.0) (same_has A D e x a.1 w.1 he hx h.1 one)

  more : (A D : List EventValue) (e x : EventValue) → HaveNumbers n A D → HasNumber (n e) e x → HaveNumbers n (A ++ e ∷ []) (D ++ x ∷ [])
  more [] [] e x h one = (one, tt)
  more [] (d ∷ D) e x h one = absurd h
  more (a ∷ A) [] e x h one = absurd h
  more (a ∷ A) (d ∷ D) e x h one = (h.0, more A D e x h.1 one)

  all_more : (P : EventValue → Type 0) (A : List EventValue) (e : EventValue) → AllByRecursion P A → P e → AllByRecursion P (A ++ e ∷ [])
  all_more P [] e a is = (is, tt)
  all_more P (x ∷ A) e a is = (a.0, all_more P A e a.1 is)

  -- what rows and events come to, where both grow by what they lack
  pub record Grown (A D : List EventValue) : Type 0 where
    pub numbers : HaveNumbers n A D
    pub bare : AreBare A
    pub whole : AllByRecursion IsEvent D

  pub rows_grow : (A D L X : List EventValue) → AreBare L → AllByRecursion IsEvent X → HaveNumbers n L X → Grown A D → Grown (append_new key_cmp A L) (append_new key_cmp D X)
  rows_grow A D [] [] bare whole have was = was
  rows_grow A D [] (x ∷ X) bare whole have was = absurd have
  rows_grow A D (e ∷ L) [] bare whole have was = absurd have
  rows_grow A D (e ∷ L) (x ∷ X) bare whole have was =
      let same = same_has A D e x was.bare was.whole bare.0 whole.0 was.numbers have.0 in
      rows_grow (if has key_cmp A e then A else A ++ e ∷ []) (if has key_cmp D x then D else D ++ x ∷ []) L X bare.1 whole.1 have.1
      (subst (λ b. Grown (if has key_cmp A e then A else A ++ e ∷ []) (if b then D else D ++ x ∷ [])) same (by (has key_cmp A e)))
    where
      by : (b : Bool) → Grown (if b then A else A ++ e ∷ []) (if b then D else D ++ x ∷ [])
      by true = was
      by false = record { numbers = more A D e x was.numbers have.0; bare = all_more IsBare A e was.bare bare.0; whole = all_more IsEvent D x was.whole whole.0 }

  -- where the events are there already, so are the rows
  pub rows_there : (A D L X : List EventValue) → Grown A D → AreBare L → AllByRecursion IsEvent X → HaveNumbers n L X → AllByRecursion (λ e. has key_cmp A e ≡ true) L → AllByRecursion (λ x. has key_cmp D x ≡ true) X
  rows_there A D [] [] was bare whole have there = tt
  rows_there A D [] (x ∷ X) was bare whole have there = absurd have
  rows_there A D (e ∷ L) [] was bare whole have there = absurd have
  rows_there A D (e ∷ L) (x ∷ X) was bare whole have there =
      (sym (same_has A D e x was.bare was.whole bare.0 whole.0 was.numbers have.0) ∙ there.0, rows_there A D L X was bare.1 whole.1 have.1 there.1)
