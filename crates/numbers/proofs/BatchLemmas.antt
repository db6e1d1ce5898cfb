-- Events that are looked at one by one.
use Rattle.std.proofs.Common.{◌≡◌, ◌≢◌, ◌≤◌, ◌+◌, ℕ, zero, suc, List, [], ◌∷◌, drop, drop_of_length-le, ◌++◌, length, slice_get, Bool, true, false, is_some, nat_lt, if◌then◌else◌, codes, Option, Some, None, refl, sym, ap, subst, ◌∙◌, add-one, arith}
use Rattle.std.specs.List.{AllByRecursion}
use Rattle.std.specs.Option.{option_or}
use Rattle.std.proofs.lemmas.Bool.Decides.{nat_tests}
use Rattle.attributes.specs.Event.{EventValue, attribute_of, text}
use Rattle.attributes.specs.Fault.{IsEvent, max_text}
use Rattle.attributes.specs.declared.scalar.Scalar.{Scalar}
use Rattle.numbers.specs.Numbered.{AreBare, AreEachNumbered, HasNumber, IsBare}
use Rattle.numbers.specs.Refusal.{refusal_at, refusal_from}
use Rattle.numbers.specs.declared.fault.NumberFault.{NumberFault}

drop_here : {X : Type 0} (es : List X) (i : ℕ) (e : X) → slice_get es i ≡ Some e → drop i es ≡ e ∷ drop (suc i) es
drop_here [] i e h = absurd (cc)
drop_here (x ∷ es) zero e h = let same : x ≡ e = cc in ap (λ y. y ∷ es) same
drop_here (x ∷ es) (suc i) e h = drop_here es i e h

pub drop_at : {X : Type 0} (es : List X) (i : ℕ) (e : X) → slice_get es i ≡ Some e → drop i es ≡ e ∷ drop (i + 1) es
drop_at es i e h = drop_here es i e h ∙ ap (λ n. e ∷ drop n es) (sym (add-one i))

no_attribute : (o : Option Scalar) (f g : Option NumberFault) → (if is_some o then f else g) ≡ None → f ≢ None → (o ≡ None) × (g ≡ None)
no_attribute None f g h differ = (refl, h)
no_attribute (Some s) f g h differ = absurd (differ h)

no_more : (m n : ℕ) (f : NumberFault) → (if nat_lt m n then Some f else None) ≡ None → n ≤ m
no_more m n f h = by (nat_lt m n) refl h
  where
    by : (b : Bool) → nat_lt m n ≡ b → (if b then Some f else None) ≡ None → n ≤ m
    by true e g = absurd (cc)
    by false e g = grind (arith, nat_tests)

pub bare_at : (i : ℕ) (e : EventValue) → IsEvent e → refusal_at i e ≡ None → IsBare e
bare_at i e event h =
    let both = no_attribute (attribute_of (codes "sequence") e) _ _ h (λ g. cc) in
    record { event = event; none = both.0; fits = no_more max_text (length (text e) + 34) _ both.1 }

pub next_refusal : (i : ℕ) (e : EventValue) (es : List EventValue) (all : Option NumberFault) → slice_get es i ≡ Some e → refusal_at i e ≡ None → all ≡ refusal_from i (drop i es) → all ≡ refusal_from (i + 1) (drop (i + 1) es)
next_refusal i e es all here none h =
    h ∙ ap (refusal_from i) (drop_at es i e here) ∙ ap (λ o. option_or o (refusal_from (suc i) (drop (i + 1) es))) none
    ∙ ap (λ n. refusal_from n (drop (i + 1) es)) (sym (add-one i))

pub this_refusal : (i : ℕ) (e : EventValue) (es : List EventValue) (f : NumberFault) (all : Option NumberFault) → slice_get es i ≡ Some e → refusal_at i e ≡ Some f → all ≡ refusal_from i (drop i es) → Some f ≡ all
this_refusal i e es f all here is h =
    sym (h ∙ ap (refusal_from i) (drop_at es i e here) ∙ ap (λ o. option_or o (refusal_from (suc i) (drop (i + 1) es))) is)

pub bare_step : (es : List EventValue) (i : ℕ) (e : EventValue) → slice_get es i ≡ Some e → IsBare e → (AreBare (drop i es) → AreBare es) → AreBare (drop (i + 1) es) → AreBare es
bare_step es i e here is before rest = before (subst AreBare (sym (drop_at es i e here)) (is, rest))

pub no_refusal : (es : List EventValue) (i : ℕ) → length es ≤ i → refusal_from i (drop i es) ≡ None
no_refusal es i past = ap (refusal_from i) (drop_of_length-le es past)

pub all_bare : (es : List EventValue) (i : ℕ) → length es ≤ i → (AreBare (drop i es) → AreBare es) → AreBare es
all_bare es i past h = h (subst AreBare (sym (drop_of_length-le es past)) tt)

-- one of them
pub bare_in : (es : List EventValue) (i : ℕ) (e : EventValue) → AreBare es → slice_get es i ≡ Some e → IsBare e
bare_in [] i e a h = absurd (cc)
bare_in (x ∷ es) zero e a h = let same : x ≡ e = cc in subst IsBare same a.0
bare_in (x ∷ es) (suc i) e a h = bare_in es i e a.1 h

pub numbered_more : (L X : List EventValue) (e x : EventValue) → AreEachNumbered L X → (n : ℕ) × HasNumber n e x → AreEachNumbered (L ++ e ∷ []) (X ++ x ∷ [])
numbered_more [] [] e x are one = (one, tt)
numbered_more [] (y ∷ X) e x are one = absurd are
numbered_more (d ∷ L) [] e x are one = absurd are
numbered_more (d ∷ L) (y ∷ X) e x are one = (are.0, numbered_more L X e x are.1 one)

pub all_more : (X : List EventValue) (x : EventValue) → AllByRecursion IsEvent X → IsEvent x → AllByRecursion IsEvent (X ++ x ∷ [])
all_more [] x a is = (is, tt)
all_more (y ∷ X) x a is = (a.0, all_more X x a.1 is)
