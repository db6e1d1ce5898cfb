-- A set has one summary.
use Rattle.std.proofs.Common.{◌≡◌, ℕ, List, [], ◌∷◌, Bool, true, false, Option, Some, None, is_some, if◌then◌else◌, subst, refl, sym, ap, ap₂, ◌∙◌}
use Rattle.std.specs.Prelude.{◌≢◌}
use Rattle.std.specs.List.{AllByRecursion}
use Rattle.std.specs.List.Sorted.{IsStrictlySortedBy}
use Rattle.std.specs.Map.{keys_of, lookup}
use Rattle.std.specs.BTreeMap.{is_at}
use Rattle.std.specs.Option.{option_map_or}
use Rattle.std.specs.Ordering.{is_eq, nat_cmp}
use Rattle.std.proofs.lemmas.Cmp.{nat_cmp_total, nat_list_cmp_total}
use Rattle.std.proofs.lemmas.Map.Lookups.{exact_bytes}
use Rattle.std.specs.Cmp.{IsTotalOrder}
use Rattle.std.specs.declared.cmp.Ordering.{Ordering}
use Rattle.std.proofs.lemmas.Cmp.{tied_itself}
use Rattle.inbox.proofs.SetLemmas.{alike_right, turned_back}
use Rattle.coverage.proofs.MapLemmas.{is_at-equal}
use mathlib.Core.Bool.{true≢false}
use Rattle.std.specs.declared.cmp.Ordering.TheVariants.{Less, Equal, Greater}
use Rattle.attributes.specs.Event.{EventValue}
use Rattle.coverage.specs.Summary.{byte_cmp, AreListed, Entries, holds_in}
use Rattle.coverage.specs.BlockDigests.{AreBlocks, Blocks, HasDigests, block_digest, blocks_of}
use Rattle.coverage.specs.Digests.{OneSummary}
use Rattle.coverage.proofs.ToldLemmas.{has_digests}
use Rattle.block_digests.specs.Digest.{digest_in}

pub is_equal : (r : Ordering) → is_eq r ≡ true → r ≡ Equal
is_equal Less h = absurd (true≢false (sym h))
is_equal Equal h = refl
is_equal Greater h = absurd (true≢false (sym h))

exact_nat : (x y : ℕ) → nat_cmp x y ≡ Equal → x ≡ y
exact_nat x y h = is_at-equal x y (ap is_eq h)

pub same_value : {X : Type 0} (x y : X) → Some x ≡ Some y → x ≡ y
same_value x y h = ap (λ o. option_map_or (λ z. z) o x) h

pub no_value : {X : Type 0} (x : X) → None ≡ Some x → ⊥
no_value x h = true≢false (sym (ap is_some h))

-- what is looked up is one of the values
among : (P : List ℕ × Blocks → Type 0) (bs : List (List ℕ × Blocks)) (source : List ℕ) (b : Blocks) → AllByRecursion P bs → lookup (is_at (byte_cmp source)) bs ≡ Some b → (x : List ℕ) × P (x, b)
among P [] source b a h = absurd (no_value b h)
among P (e ∷ es) source b a h =
    elim (is_at (byte_cmp source) e.0) as (λ c. (if c then Some e.1 else lookup (is_at (byte_cmp source)) es) ≡ Some b → (x : List ℕ) × P (x, b)) [
      | true ↦ λ k. (e.0, subst (λ y. P (e.0, y)) (same_value e.1 b k) a.0)
      | false ↦ λ k. among P es source b a.1 k
    ] h

all_map : {K : Type 0} (P Q : K → Type 0) → ((y : K) → P y → Q y) → (ks : List K) → AllByRecursion P ks → AllByRecursion Q ks
all_map P Q f [] a = tt
all_map P Q f (y ∷ ys) a = (f y a.0, all_map P Q f ys a.1)

module _ {K : Type 0} {R : K → K → Ordering} (o : IsTotalOrder R) where
  all_below : (q x : K) (ks : List K) → R q x ≡ Less → AllByRecursion (λ z. R x z ≡ Less) ks → AllByRecursion (λ z. R q z ≡ Less) ks
  all_below q x ks l a = all_map (λ z. R x z ≡ Less) (λ z. R q z ≡ Less) (λ z h. o.trans q x z l h) ks a

  pub tied_below : (q x : K) (ks : List K) → R q x ≡ Equal → AllByRecursion (λ z. R x z ≡ Less) ks → AllByRecursion (λ z. R q z ≡ Less) ks
  tied_below q x ks t a = all_map (λ z. R x z ≡ Less) (λ z. R q z ≡ Less) (λ z h. o.congr q x z t ∙ h) ks a

-- ---- lists of entries whose keys ascend, and what is looked up in them
module _ {K X : Type 0} {R : K → K → Ordering} (o : IsTotalOrder R) (exact : (x y : K) → R x y ≡ Equal → x ≡ y) where
  pub below : (es : List (K × X)) (q : K) → AllByRecursion (λ z. R q z ≡ Less) (keys_of es) → lookup (is_at (R q)) es ≡ None
  below [] q a = refl
  below (e ∷ es) q a = ap (λ r. if is_eq r then Some e.1 else lookup (is_at (R q)) es) a.0 ∙ below es q a.1

  pub at_head : (e : K × X) (es : List (K × X)) → lookup (is_at (R e.0)) (e ∷ es) ≡ Some e.1
  at_head e es = ap (λ r. if is_eq r then Some e.1 else lookup (is_at (R e.0)) es) (tied_itself o e.0)

  pub past : (q : K) (e : K × X) (es : List (K × X)) → is_eq (R q e.0) ≡ false → lookup (is_at (R q)) (e ∷ es) ≡ lookup (is_at (R q)) es
  past q e es h = ap (λ b. if b then Some e.1 else lookup (is_at (R q)) es) h

  same_tail : (e f : K × X) (es fs : List (K × X)) (q : K) → R e.0 f.0 ≡ Equal → AllByRecursion (λ z. R e.0 z ≡ Less) (keys_of es) → AllByRecursion (λ z. R f.0 z ≡ Less) (keys_of fs)
      → lookup (is_at (R q)) (e ∷ es) ≡ lookup (is_at (R q)) (f ∷ fs) → lookup (is_at (R q)) es ≡ lookup (is_at (R q)) fs
  same_tail e f es fs q t a b h = by_test (is_eq (R q e.0)) refl
    where
      alike : R q e.0 ≡ R q f.0
      alike = alike_right o e.0 f.0 q t

      by_test : (c : Bool) → is_eq (R q e.0) ≡ c → lookup (is_at (R q)) es ≡ lookup (is_at (R q)) fs
      by_test true c = below es q (tied_below o q e.0 (keys_of es) (is_equal (R q e.0) c) a) ∙ sym (below fs q (tied_below o q f.0 (keys_of fs) (sym alike ∙ is_equal (R q e.0) c) b))
      by_test false c = sym (past q e es c) ∙ h ∙ past q f fs (sym (ap is_eq alike) ∙ c)

  pub same_entries : (es fs : List (K × X)) → IsStrictlySortedBy R (keys_of es) → IsStrictlySortedBy R (keys_of fs) → ((q : K) → lookup (is_at (R q)) es ≡ lookup (is_at (R q)) fs) → es ≡ fs
  unfolding IsStrictlySortedBy
  same_entries [] [] s t h = refl
  same_entries [] (f ∷ fs) s t h = absurd (no_value f.1 (h f.0 ∙ at_head f fs))
  same_entries (e ∷ es) [] s t h = absurd (no_value e.1 (sym (h e.0) ∙ at_head e es))
  same_entries (e ∷ es) (f ∷ fs) s t h =
      elim (R e.0 f.0) as (λ r. R e.0 f.0 ≡ r → e ∷ es ≡ f ∷ fs) [
        | Less ↦ λ p. absurd (no_value e.1 (sym (below (f ∷ fs) e.0 (p, all_below o e.0 f.0 (keys_of fs) p t.0)) ∙ sym (h e.0) ∙ at_head e es))
        | Equal ↦ λ p.
            let keys : e.0 ≡ f.0 = exact e.0 f.0 p in
            let values : e.1 ≡ f.1 = same_value e.1 f.1 (sym (at_head e es) ∙ h e.0 ∙ ap (λ r. if is_eq r then Some f.1 else lookup (is_at (R e.0)) fs) p) in
            ap₂ (λ x l. x ∷ l) (ap₂ (λ k v. (k, v)) keys values) (same_entries es fs s.1 t.1 (λ q. same_tail e f es fs q p s.0 t.0 (h q)))
        | Greater ↦ λ p. absurd (no_value f.1 (sym (below (e ∷ es) f.0 (turned_back o e.0 f.0 p, all_below o f.0 e.0 (keys_of es) (turned_back o e.0 f.0 p) s.0)) ∙ h f.0 ∙ at_head f fs))
      ] refl

-- digests of blocks that ascend are told by their look-ups
same_blocks : (bs cs : Blocks) → IsStrictlySortedBy nat_cmp (keys_of bs) → IsStrictlySortedBy nat_cmp (keys_of cs) → ((k : ℕ) → block_digest bs k ≡ block_digest cs k) → bs ≡ cs
same_blocks bs cs s t h = same_entries nat_cmp_total exact_nat bs cs s t h

Fits : Option Blocks → Type 0
Fits o = (b : Blocks) → o ≡ Some b → (b ≢ []) × IsStrictlySortedBy nat_cmp (keys_of b)

same_at : (x y : Option Blocks) → Fits x → Fits y → ((k : ℕ) → block_digest (option_map_or (λ b. b) x []) k ≡ block_digest (option_map_or (λ b. b) y []) k) → x ≡ y
unfolding Fits IsStrictlySortedBy
same_at None None f g h = refl
same_at None (Some c) f g h = absurd ((g c refl).0 (sym (same_blocks [] c tt (g c refl).1 h)))
same_at (Some b) None f g h = absurd ((f b refl).0 (same_blocks b [] (f b refl).1 tt h))
same_at (Some b) (Some c) f g h = ap (λ z. Some z) (same_blocks b c (f b refl).1 (g c refl).1 h)

-- digests of one set are one list
same_digests : (E : List EventValue) (es fs : Entries) (bs cs : List (List ℕ × Blocks)) → AreListed es → AreListed fs → HasDigests es (Some bs) → HasDigests fs (Some cs)
    → ((source : List ℕ) (k : ℕ) → block_digest (blocks_of bs source) k ≡ digest_in E source k) → ((source : List ℕ) (k : ℕ) → block_digest (blocks_of cs source) k ≡ digest_in E source k) → bs ≡ cs
unfolding Fits
same_digests E es fs bs cs l m p q d e = same_entries nat_list_cmp_total exact_bytes bs cs (subst (IsStrictlySortedBy byte_cmp) (sym p.sources) l.1) (subst (IsStrictlySortedBy byte_cmp) (sym q.sources) m.1) at
  where
    at : (source : List ℕ) → lookup (is_at (byte_cmp source)) bs ≡ lookup (is_at (byte_cmp source)) cs
    at source =
        same_at (lookup (is_at (byte_cmp source)) bs) (lookup (is_at (byte_cmp source)) cs)
        (λ b h. let a = (among AreBlocks bs source b p.blocks h).1 in (a.0, a.1)) (λ b h. let a = (among AreBlocks cs source b q.blocks h).1 in (a.0, a.1))
        (λ k. d source k ∙ sym (e source k))

pub one_summary : ((es fs : Entries) → AreListed es → AreListed fs → ((source : List ℕ) (n : ℕ) → holds_in es source n ≡ holds_in fs source n) → es ≡ fs) → OneSummary
one_summary tells E s t d e =
    ap₂ (λ a b. record { entries = a; digests = b }) (tells s.entries t.entries d.in_form.listed e.in_form.listed (λ source n. d.numbers source n ∙ sym (e.numbers source n)))
    (both s.digests t.digests (has_digests s d.version) (has_digests t e.version) d.in_form.digests e.in_form.digests d.blocks e.blocks)
  where
    both : (o p : Option (List (List ℕ × Blocks))) → is_some o ≡ true → is_some p ≡ true → HasDigests s.entries o → HasDigests t.entries p
        → ((source : List ℕ) (k : ℕ) → option_map_or (λ ds. block_digest (blocks_of ds source) k) o None ≡ digest_in E source k)
        → ((source : List ℕ) (k : ℕ) → option_map_or (λ ds. block_digest (blocks_of ds source) k) p None ≡ digest_in E source k) → o ≡ p
    both None p v w f g x y = absurd (true≢false (sym v))
    both (Some bs) None v w f g x y = absurd (true≢false (sym w))
    both (Some bs) (Some cs) v w f g x y = ap (λ z. Some z) (same_digests E s.entries t.entries bs cs d.in_form.listed e.in_form.listed f g x y)
