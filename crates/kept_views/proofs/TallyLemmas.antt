-- Counts of texts: what one more or one less changes.
use Rattle.std.proofs.Common.{◌≡◌, ℕ, zero, suc, ◌≢◌, List, Bool, true, false, if◌then◌else◌, refl, sym, ap, ◌∙◌, Option, Some}
use Rattle.std.specs.Prelude.{Result, Ok, Err, IsOk, OnOk}
use Rattle.std.specs.Option.{unwrap_or}
use Rattle.std.specs.Map.{lookup}
use Rattle.std.specs.Str.{bytes_eq}
use Rattle.std.specs.String.{string_bytes}
use Rattle.std.specs.declared.string.String.{String}
use Rattle.std.proofs.lemmas.Slice.Eq.{bytes_eq-Decides}
use Rattle.kept_views.specs.Tables.{count_in_table}
use Rattle.kept_views.specs.steps.Moves.{CountsChange, count_in}
use Rattle.kept_views.specs.steps.Seen.{kinds_in}
use Rattle.kept_views.proofs.TableLemmas.{back, option_same, seen}

-- what holds of success, where there is success
pub on_ok : {T E : Type 0} (r : Result T E) (P : Type 0) → IsOk r → OnOk r P → P
on_ok (Ok x) P s h = h
on_ok (Err y) P s h = absurd (cc)

-- a count that isn't 0, as a table has it
pub counted_some : (n : ℕ) → n ≢ 0 → Some n ≡ count_in_table n
counted_some zero h = absurd (h refl)
counted_some (suc n) h = refl

-- the count of one key changes, by the count that it had
pub at_own : {P : Type 0} (same : P → P → Bool) (exact : (p q : P) → same p q ≡ true → p ≡ q) (itself : (p : P) → same p p ≡ true) (F : ℕ → Option ℕ) (q : P) (ks ms : List (P × ℕ))
    → ((k : P) → lookup (same k) ms ≡ (if same q k then F (unwrap_or (lookup (same q) ks) 0) else lookup (same k) ks)) → CountsChange same (λ k. same k q) F ks ms
at_own {P} same exact itself F q ks ms change k =
    change k
    ∙ elim (same q k) as (λ b. same q k ≡ b → (if b then F (unwrap_or (lookup (same q) ks) 0) else lookup (same k) ks) ≡ (if same k q then F (unwrap_or (lookup (same k) ks) 0) else lookup (same k) ks)) [
      | true ↦ λ e.
          let own : q ≡ k = exact q k e in
          ap (λ x. F (unwrap_or (lookup (same x) ks) 0)) own
          ∙ ap (λ b. if b then F (unwrap_or (lookup (same k) ks) 0) else lookup (same k) ks) (sym (ap (same k) own ∙ itself k))
      | false ↦ λ e. ap (λ b. if b then F (unwrap_or (lookup (same k) ks) 0) else lookup (same k) ks) (sym (back (λ (p : P). p) same exact itself q k e))
    ] refl

module _ {Y : Type 0} where
  abbrev pub text_at : List ℕ → String Y → Bool
  text_at k x = bytes_eq k (string_bytes x)

  pub kind_seen : (es : List (String Y × ℕ)) (k : List ℕ) → lookup (bytes_eq k) (kinds_in es) ≡ lookup (text_at k) es
  kind_seen es k = seen string_bytes bytes_eq (λ (n : ℕ). n) k es ∙ option_same (lookup (text_at k) es)

  -- a count in the table as the code holds it
  pub count_seen : (es fs : List (String Y × ℕ)) (ks : List (List ℕ × ℕ)) (t k : List ℕ) → kinds_in es ≡ ks → fs ≡ es → t ≡ k → unwrap_or (lookup (text_at t) fs) 0 ≡ count_in ks k
  count_seen es fs ks t k view same text =
      ap (λ l. unwrap_or (lookup (text_at t) l) 0) same ∙ ap (λ x. unwrap_or (lookup (text_at x) es) 0) text
      ∙ ap (λ o. unwrap_or o 0) (sym (kind_seen es k)) ∙ ap (λ l. count_in l k) view

  -- one count changes
  pub count_changes : (F : ℕ → Option ℕ) (es fs gs : List (String Y × ℕ)) (ks : List (List ℕ × ℕ)) (t kind : List ℕ) → kinds_in es ≡ ks → fs ≡ es → t ≡ kind
      → ((k : List ℕ) → lookup (text_at k) gs ≡ (if bytes_eq t k then F (unwrap_or (lookup (text_at t) fs) 0) else lookup (text_at k) fs))
      → CountsChange bytes_eq (λ k. bytes_eq k kind) F ks (kinds_in gs)
  count_changes F es fs gs ks t kind view same text change =
      at_own bytes_eq (λ p q. (bytes_eq-Decides p q).0) (λ p. (bytes_eq-Decides p p).1 refl) F kind ks (kinds_in gs) (λ k.
      kind_seen gs k ∙ change k
      ∙ ap (λ n. if bytes_eq t k then F n else lookup (text_at k) fs) (count_seen es fs ks t kind view same text)
      ∙ ap (λ o. if bytes_eq t k then F (count_in ks kind) else o) (ap (lookup (text_at k)) same ∙ sym (kind_seen es k) ∙ ap (lookup (bytes_eq k)) view)
      ∙ ap (λ x. if bytes_eq x k then F (count_in ks kind) else lookup (bytes_eq k) ks) text)
