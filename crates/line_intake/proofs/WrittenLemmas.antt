-- What a stream grew by, write by write.
use Rattle.std.proofs.Common.{◌≡◌, ℕ, ◌-◌, List, [], ◌++◌, length, take, drop, refl, sym, ap, ◌∙◌, subst, append_assoc, append-nil, take-append-drop}
use Rattle.std.specs.Prelude.{Option, None, Some}
use Rattle.std.specs.Io.KnownBytes.{Appends, Keeps}
use Rattle.std.proofs.lemmas.List.{take_rest}
use Rattle.std.proofs.KnownBytes.{Appends-nil, Appends-trans}
use Rattle.line_intake.specs.Written.{Wrote}

pub Appends-kept : (a b c : Option (List ℕ)) (bs : List ℕ) → Appends a b bs → Keeps b c → Appends a c bs
Appends-kept None b c bs p q = tt
Appends-kept (Some x) None c bs p q = absurd p
Appends-kept (Some x) (Some y) None bs p q = absurd q
Appends-kept (Some x) (Some y) (Some z) bs p q = q ∙ p

pub Wrote-start : (a : Option (List ℕ)) (text : List ℕ) → Wrote a a text text
Wrote-start a text = record { front = []; split = refl; grown = Appends-nil a }

-- n bytes of the rest more
pub Wrote-more : (a b c : Option (List ℕ)) (text rest : List ℕ) (n : ℕ) → Wrote a b text rest → Appends b c (take n rest)
    → Wrote a c text (take (length rest - n) (drop n rest))
Wrote-more a b c text rest n w more = record {
  front = w.front ++ take n rest;
  split = w.split ∙ ap (λ (l : List ℕ). w.front ++ l) (sym (take-append-drop n rest)) ∙ sym (append_assoc w.front (take n rest) (drop n rest))
      ∙ ap (λ (l : List ℕ). (w.front ++ take n rest) ++ l) (sym (take_rest rest n));
  grown = Appends-trans a b c w.front (take n rest) w.grown more;
}

pub Wrote-kept : (a b c : Option (List ℕ)) (text rest : List ℕ) → Wrote a b text rest → Keeps b c → Wrote a c text rest
Wrote-kept a b c text rest w kept = record { front = w.front; split = w.split; grown = Appends-kept a b c w.front w.grown kept }

-- nothing of the text is left
pub Wrote-all : (a b : Option (List ℕ)) (text rest : List ℕ) → Wrote a b text rest → rest ≡ [] → Appends a b text
Wrote-all a b text rest w none = subst (Appends a b) (sym (w.split ∙ ap (λ (l : List ℕ). w.front ++ l) none ∙ append-nil w.front)) w.grown

-- a front of a text behind one that was written whole
pub Wrote-behind : (a b c : Option (List ℕ)) (before text rest : List ℕ) → Appends a b before → Wrote b c text rest → Wrote a c (before ++ text) rest
Wrote-behind a b c before text rest grown w = record {
  front = before ++ w.front;
  split = ap (λ (l : List ℕ). before ++ l) w.split ∙ sym (append_assoc before w.front rest);
  grown = Appends-trans a b c before w.front grown w.grown;
}
