-- Rows in order of their keys, each with its value.
use Rattle.std.proofs.Common.{◌≡◌, ℕ, zero, suc, ◌+◌, ◌<◌, List, [], ◌∷◌, Bool, true, false, ◌||◌, cond, map, refl, sym, ap, ap₂, ◌∙◌, arith, Some, slice_get}
use Rattle.std.specs.Prelude.{count_by, is_some}
use Rattle.std.specs.declared.cmp.Ordering.{Ordering}
use Rattle.std.specs.declared.cmp.Ordering.TheVariants.{Equal}
use Rattle.std.specs.Ordering.{is_eq}
use Rattle.std.specs.Cmp.{IsTotalOrder}
use Rattle.std.specs.List.{AllByRecursion, IsDistinct}
use Rattle.std.specs.List.Sorted.{IsStrictlySortedBy}
use Rattle.std.specs.Map.{keys_of, lookup}
use Rattle.std.specs.BTreeSet.{insert_key}
use Rattle.std.specs.Str.{bytes_eq}
use Rattle.std.specs.String.{string_bytes}
use Rattle.std.specs.declared.string.String.{String}
use Rattle.std.proofs.lemmas.Cmp.{nat_list_cmp_total}
use Rattle.std.proofs.lemmas.List.Sums.{sum_by-cons}
use Rattle.std.proofs.lemmas.Map.Lookups.{exact_bytes}
use Rattle.std.proofs.lemmas.Map.Text.{is_eq-slice_cmp}
use Rattle.std.proofs.lemmas.Slice.Eq.{bytes_eq-Decides}
use Rattle.attributes.specs.Bytes.{byte_cmp}
use Rattle.attributes.specs.Event.{EventValue, kind_of}
use Rattle.inbox.specs.Ordered.{add_all, has, in_order}
use Rattle.inbox.proofs.SetLemmas.{sets_are_members, sorted-insert_key}
use Rattle.views.specs.Tally.{tally}
use Rattle.views.proofs.TableLemmas.{insert_value, with_values}
use Rattle.kept_views.specs.Tables.{CountsKinds, count_of_kind, count_in_table}
use Rattle.kept_views.specs.steps.Rows.{put_all}
use Rattle.kept_views.specs.steps.Seen.{kinds_in}
use Rattle.kept_views.proofs.ListLemmas.{each_at}
use Rattle.kept_views.proofs.TableLemmas.{back}

-- ---- rows that have a function's values
module _ {K V : Type 0} {R : K → K → Ordering} (o : IsTotalOrder R) (exact : (x y : K) → R x y ≡ Equal → x ≡ y) (F : K → V) where
  put_in : (ks : List K) → IsStrictlySortedBy R ks → (rows : List (K × V)) → AllByRecursion (λ row. row.1 ≡ F row.0) rows → put_all R (with_values F ks) rows ≡ with_values F (add_all R ks (map (λ row. row.0) rows))
  put_in ks s [] a = refl
  put_in ks s (row ∷ rows) a =
      ap (λ t. put_all R t rows) (insert_value o row.0 row.1 F F (λ j e. ap F (sym (exact row.0 j e)) ∙ sym a.0) (λ j e. refl) ks s)
      ∙ put_in (insert_key R ks row.0) (sorted-insert_key o ks row.0 s) rows a.1

  pub in_order_of_keys : (rows : List (K × V)) → AllByRecursion (λ row. row.1 ≡ F row.0) rows → put_all R [] rows ≡ with_values F (in_order R (map (λ row. row.0) rows))
  unfolding IsStrictlySortedBy
  in_order_of_keys rows a = put_in [] tt rows a

-- lists with the same keys have one order
pub one_order : {K : Type 0} {R : K → K → Ordering} (o : IsTotalOrder R) (exact : (x y : K) → R x y ≡ Equal → x ≡ y) (xs ys : List K) → ((k : K) → has R xs k ≡ has R ys k) → in_order R xs ≡ in_order R ys
one_order o exact xs ys h = sets_are_members o (λ _. Unit {0}) (λ x y _ _ e. exact x y e) xs ys (each_at (λ _. Unit {0}) xs (λ k x h. tt)) (each_at (λ _. Unit {0}) ys (λ k x h. tt)) h

-- ---- rows whose keys are distinct are found
module _ {P X : Type 0} (same : P → P → Bool) (exact : (p q : P) → same p q ≡ true → p ≡ q) (itself : (p : P) → same p p ≡ true) where
  pub row_found : (rows : List (P × X)) → IsDistinct same (map (λ row. row.0) rows) → (i : ℕ) (row : P × X) → slice_get rows i ≡ Some row → lookup (same row.0) rows ≡ Some row.1
  unfolding IsDistinct
  row_found [] d i row h = absurd (cc)
  row_found (x ∷ xs) d zero row h =
      let own : x ≡ row = cc in
      ap (λ b. cond b (Some x.1) (lookup (same row.0) xs)) (ap (λ (y : P × X). same row.0 y.0) own ∙ itself row.0) ∙ ap (λ (y : P × X). Some y.1) own
  row_found (x ∷ xs) d (suc i) row h =
      ap (λ b. cond b (Some x.1) (lookup (same row.0) xs)) (back (λ (p : P). p) same exact itself x.0 row.0 (apart xs d.0 i h)) ∙ row_found xs d.1 i row h
    where
      apart : (xs : List (P × X)) → AllByRecursion (λ y. same x.0 y ≡ false) (map (λ row. row.0) xs) → (i : ℕ) → slice_get xs i ≡ Some row → same x.0 row.0 ≡ false
      apart [] a i h = absurd (cc)
      apart (y ∷ ys) a zero h = let own : y ≡ row = cc in ap (λ (z : P × X). same x.0 z.0) (sym own) ∙ a.0
      apart (y ∷ ys) a (suc i) h = apart ys a.1 i h

-- distinct keys are so through the function that they are seen by
pub distinct_seen : {K P X Y : Type 0} (f : K → P) (same : P → P → Bool) (h : X → Y) (es : List (K × X)) → IsDistinct (λ x y. same (f x) (f y)) (keys_of es) → IsDistinct same (map (λ (row : P × Y). row.0) (map (λ (e : K × X). (f e.0, h e.1)) es))
unfolding IsDistinct
distinct_seen f same h [] d = tt
distinct_seen {K} {P} {X} {Y} f same h (x ∷ xs) d = (apart xs d.0, distinct_seen f same h xs d.1)
  where
    apart : (xs : List (K × X)) → AllByRecursion (λ y. same (f x.0) (f y) ≡ false) (keys_of xs) → AllByRecursion (λ y. same (f x.0) y ≡ false) (map (λ (row : P × Y). row.0) (map (λ (e : K × X). (f e.0, h e.1)) xs))
    apart [] a = tt
    apart (y ∷ ys) a = (a.0, apart ys a.1)

-- ---- types
pub positive : (n : ℕ) → 0 < n → is_some (count_in_table n) ≡ true
positive zero h = absurd (omega arith)
positive (suc n) h = refl

abbrev times : List EventValue → List ℕ → ℕ
times S k = count_by (λ j. is_eq (byte_cmp k j)) (map kind_of S)

times_is : (S : List EventValue) (k : List ℕ) → count_by (λ j. is_eq (byte_cmp k j)) (map kind_of S) ≡ count_of_kind S k
times_is [] k = refl
times_is (e ∷ S) k =
    sum_by-cons (λ j. cond (is_eq (byte_cmp k j)) 1 0) (kind_of e) (map kind_of S)
    ∙ ap₂ (λ (b : Bool) (n : ℕ). cond b 1 0 + n) (is_eq-slice_cmp k (kind_of e)) (times_is S k)
    ∙ sym (sum_by-cons (λ e. cond (bytes_eq k (kind_of e)) 1 0) e S)

has_kind : (S : List EventValue) (k : List ℕ) → has byte_cmp (map kind_of S) k ≡ is_some (count_in_table (count_of_kind S k))
has_kind [] k = refl
has_kind (e ∷ S) k =
    ap (λ b. b || has byte_cmp (map kind_of S) k) (is_eq-slice_cmp k (kind_of e))
    ∙ elim (bytes_eq k (kind_of e)) as (λ b. (b || has byte_cmp (map kind_of S) k) ≡ is_some (count_in_table (cond b 1 0 + count_of_kind S k))) [
      | true ↦ sym (positive (1 + count_of_kind S k) (omega arith))
      | false ↦ has_kind S k ∙ ap (λ n. is_some (count_in_table n)) (omega arith)
    ]
    ∙ ap (λ n. is_some (count_in_table n)) (sym (sum_by-cons (λ e. cond (bytes_eq k (kind_of e)) 1 0) e S))

has_row : (rows : List (List ℕ × ℕ)) (k : List ℕ) → has byte_cmp (map (λ row. row.0) rows) k ≡ is_some (lookup (bytes_eq k) rows)
has_row [] k = refl
has_row (row ∷ rows) k =
    ap (λ b. b || has byte_cmp (map (λ row. row.0) rows) k) (is_eq-slice_cmp k row.0)
    ∙ elim (bytes_eq k row.0) as (λ b. (b || has byte_cmp (map (λ row. row.0) rows) k) ≡ is_some (cond b (Some row.1) (lookup (bytes_eq k) rows))) [
      | true ↦ refl
      | false ↦ has_row rows k
    ]

pub count_from : (n m : ℕ) → count_in_table n ≡ Some m → m ≡ n
count_from zero m h = absurd (cc)
count_from (suc n) m h = cc

-- the rows of a table that counts the types, put in order, are those of the tally
pub kinds_listed : (S : List EventValue) (rows : List (List ℕ × ℕ)) → CountsKinds S rows → IsDistinct bytes_eq (map (λ row. row.0) rows) → put_all byte_cmp [] rows ≡ tally byte_cmp (map kind_of S)
kinds_listed S rows counts distinct =
    in_order_of_keys nat_list_cmp_total exact_bytes (times S) rows
    (each_at _ rows (λ i row h. count_from (count_of_kind S row.0) row.1 (sym (counts row.0) ∙ row_found bytes_eq (λ p q. (bytes_eq-Decides p q).0) (λ p. (bytes_eq-Decides p p).1 refl) rows distinct i row h) ∙ sym (times_is S row.0)))
    ∙ ap (with_values (times S)) (one_order nat_list_cmp_total exact_bytes (map (λ row. row.0) rows) (map kind_of S) (λ k. has_row rows k ∙ ap is_some (counts k) ∙ sym (has_kind S k)))

pub kinds_distinct : {Y : Type 0} (es : List (String Y × ℕ)) → IsDistinct (λ x y. bytes_eq (string_bytes x) (string_bytes y)) (keys_of es) → IsDistinct bytes_eq (map (λ row. row.0) (kinds_in es))
kinds_distinct es d = distinct_seen string_bytes bytes_eq (λ (n : ℕ). n) es d
