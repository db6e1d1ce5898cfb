-- Tables whose keys are seen through a function: what a look-up finds after a change.
use Rattle.std.proofs.Common.{◌≡◌, ℕ, List, length, arith, [], ◌∷◌, Bool, true, false, ◌&&◌, if◌then◌else◌, cond, map, refl, sym, ap, ap₂, ◌∙◌, Option, Some, None}
use Rattle.std.specs.Map.{lookup, set_value, KeepsOthers}
use Rattle.std.specs.Option.{option_map, option_map_or}
use Rattle.std.specs.Ordering.{is_eq}
use Rattle.std.specs.BTreeMap.{BTreeMap}
use Rattle.std.specs.declared.string.String.{String}
use Rattle.std.specs.Str.{bytes_eq}
use Rattle.std.specs.Cmp.{Equal-is, IsTotalOrder}
use Rattle.std.proofs.lemmas.Cmp.{nat_cmp_total, nat_list_cmp_total, on_total, then_total, tied_itself}
use Rattle.std.proofs.lemmas.Map.Lookups.{exact_bytes, exact_pairs, exact_unsigned}
use Rattle.std.proofs.lemmas.Slice.Eq.{bytes_eq-Decides}
use mathlib.Core.Bool.{true≢false}
use Rattle.kept_views.specs.Tables.{Rank, Rows, Entity, is_rank, is_entity, row_place_at, rank_cmp}
use Rattle.kept_views.specs.steps.Moves.{SetsSlot}
use Rattle.kept_views.specs.steps.Seen.{rank_in, rows_in, entity_in, entities_in}

pub option_same : {X : Type 0} (o : Option X) → option_map (λ x. x) o ≡ o
option_same None = refl
option_same (Some x) = refl

-- what is read through the keys
pub seen : {K P X Y : Type 0} (f : K → P) (same : P → P → Bool) (h : X → Y) (p : P) (es : List (K × X))
    → lookup (same p) (map (λ (e : K × X). (f e.0, h e.1)) es) ≡ option_map h (lookup (λ k. same p (f k)) es)
seen f same h p [] = refl
seen f same h p (e ∷ es) =
    elim (same p (f e.0)) as (λ b. cond b (Some (h e.1)) (lookup (same p) (map (λ e. (f e.0, h e.1)) es)) ≡ option_map h (cond b (Some e.1) (lookup (λ k. same p (f k)) es))) [
      | true ↦ refl
      | false ↦ seen f same h p es
    ]

module _ {K P : Type 0} (f : K → P) (same : P → P → Bool) (exact : (p q : P) → same p q ≡ true → p ≡ q) (itself : (p : P) → same p p ≡ true) where
  pub back : (p q : P) → same p q ≡ false → same q p ≡ false
  back p q h = from (same q p) refl
    where
      from : (b : Bool) → same q p ≡ b → b ≡ false
      from true e = absurd (true≢false (sym (itself p) ∙ ap (λ x. same p x) (sym (exact q p e)) ∙ h))
      from false e = refl

  -- a key that changed, and the others, which have what they had
  pub read_after : {X : Type 0} (q : P) (es fs : List (K × X)) (w : Option X) → KeepsOthers (λ x y. same (f x) (f y)) (λ k. same q (f k)) es fs → lookup (λ k. same q (f k)) fs ≡ w
      → (p : P) → lookup (λ k. same p (f k)) fs ≡ (if same q p then w else lookup (λ k. same p (f k)) es)
  unfolding KeepsOthers
  read_after q es fs w keeps there p =
      elim (same q p) as (λ b. same q p ≡ b → lookup (λ k. same p (f k)) fs ≡ (if b then w else lookup (λ k. same p (f k)) es)) [
        | true ↦ λ e. ap (λ x. lookup (λ k. same x (f k)) fs) (sym (exact q p e)) ∙ there
        | false ↦ λ e. keeps (λ k. same p (f k)) (λ x y t. ap (λ x. same x (f y)) (exact p (f x) t)) (λ k t. ap (same p) (sym (exact q (f k) t)) ∙ back q p e)
      ] refl

-- what two changes at one key leave
keeps_both : {K X : Type 0} (eq : K → K → Bool) (test : K → Bool) (es ms fs : List (K × X)) → KeepsOthers eq test es ms → KeepsOthers eq test ms fs → KeepsOthers eq test es fs
unfolding KeepsOthers
keeps_both eq test es ms fs first second = λ other is apart. second other is apart ∙ first other is apart

-- ---- entities and ranks are told apart exactly
pub and_left : (a b : Bool) → (a && b) ≡ true → a ≡ true
and_left true b h = refl
and_left false b h = absurd (cc)

pub and_right : (a b : Bool) → (a && b) ≡ true → b ≡ true
and_right true b h = h
and_right false b h = absurd (cc)

pub entity_exact : (t u : Entity) → is_entity t u ≡ true → t ≡ u
entity_exact t u h =
    let first : t.0 ≡ u.0 = (bytes_eq-Decides t.0 u.0).0 (and_left (bytes_eq t.0 u.0) _ h) in
    let second : t.1 ≡ u.1 = (bytes_eq-Decides t.1 u.1).0 (and_right (bytes_eq t.0 u.0) _ h) in
    ap₂ (λ (x y : List ℕ). (x, y)) first second

pub entity_itself : (t : Entity) → is_entity t t ≡ true
entity_itself t = ap₂ (λ (a b : Bool). a && b) ((bytes_eq-Decides t.0 t.0).1 refl) ((bytes_eq-Decides t.1 t.1).1 refl)

pub rank_exact : (r s : Rank) → is_rank r s ≡ true → r ≡ s
rank_exact r s h = exact_pairs _ _ exact_unsigned exact_bytes r s ((Equal-is (rank_cmp r s)).0 h)

pub rank_cmp_total : IsTotalOrder rank_cmp
rank_cmp_total = then_total (on_total (λ (r : Rank). r.0) nat_cmp_total) (on_total (λ (r : Rank). r.1) nat_list_cmp_total)

pub rank_itself : (r : Rank) → is_rank r r ≡ true
rank_itself r = ap is_eq (tied_itself rank_cmp_total r)

-- ---- rows as the code holds them
abbrev pub Held : Type 0 → Type 0
Held Y = BTreeMap (ℕ × String Y) ℕ

module _ {Y : Type 0} where
  abbrev pub at_rank : Rank → ℕ × String Y → Bool
  at_rank r k = is_rank r (rank_in k)

  abbrev pub at_entity : Entity → String Y × String Y → Bool
  at_entity t k = is_entity t (entity_in k)

  pub row_seen : (rows : Held Y) (r : Rank) → lookup (is_rank r) (rows_in rows) ≡ lookup (at_rank r) rows.entries
  row_seen rows r = seen rank_in is_rank (λ (n : ℕ). n) r rows.entries ∙ option_same (lookup (at_rank r) rows.entries)

  place_seen : (es : List ((String Y × String Y) × Held Y)) (t : Entity) (r : Rank) → row_place_at (entities_in es) t r ≡ lookup (is_rank r) (option_map_or (λ (rows : Rows). rows) (option_map rows_in (lookup (at_entity t) es)) [])
  place_seen es t r = ap (λ o. lookup (is_rank r) (option_map_or (λ (rows : Rows). rows) o [])) (seen entity_in is_entity rows_in t es)

  -- an entity has other rows than before, which differ at one rank
  pub puts_at : (t : Entity) (r : Rank) (place : Option ℕ) (es fs : List ((String Y × String Y) × Held Y)) (w : Option (Held Y))
      → KeepsOthers (λ x y. is_entity (entity_in x) (entity_in y)) (at_entity t) es fs → lookup (at_entity t) fs ≡ w
      → ((s : Rank) → lookup (is_rank s) (option_map_or (λ (rows : Rows). rows) (option_map rows_in w) []) ≡ (if is_rank r s then place else row_place_at (entities_in es) t s))
      → SetsSlot (Some (t, r)) place (entities_in es) (entities_in fs)
  puts_at t r place es fs w keeps there inner = λ u s.
      place_seen fs u s
      ∙ ap (λ o. lookup (is_rank s) (option_map_or (λ (rows : Rows). rows) (option_map rows_in o) [])) (read_after entity_in is_entity entity_exact entity_itself t es fs w keeps there u)
      ∙ elim (is_entity t u) as (λ b. is_entity t u ≡ b → lookup (is_rank s) (option_map_or (λ (rows : Rows). rows) (option_map rows_in (if b then w else lookup (at_entity u) es)) [])
      ≡ (if b && is_rank r s then place else row_place_at (entities_in es) u s)) [
        | true ↦ λ e. inner s ∙ ap (λ x. if is_rank r s then place else row_place_at (entities_in es) x s) (entity_exact t u e)
        | false ↦ λ e. sym (place_seen es u s)
      ] refl

  -- the rows of an entity that was there change at a rank
  pub rows_change : (t : Entity) (r : Rank) (place : Option ℕ) (es : List ((String Y × String Y) × Held Y)) (m n : Held Y) → lookup (at_entity t) es ≡ Some m
      → KeepsOthers (λ x y. is_rank (rank_in x) (rank_in y)) (at_rank r) m.entries n.entries → lookup (at_rank r) n.entries ≡ place
      → (s : Rank) → lookup (is_rank s) (rows_in n) ≡ (if is_rank r s then place else row_place_at (entities_in es) t s)
  rows_change t r place es m n there keeps got s =
      row_seen n s ∙ read_after rank_in is_rank rank_exact rank_itself r m.entries n.entries place keeps got s
      ∙ ap (λ o. if is_rank r s then place else o) (sym (row_seen m s) ∙ sym (place_seen es t s ∙ ap (λ o. lookup (is_rank s) (option_map_or (λ (rows : Rows). rows) (option_map rows_in o) [])) there))

  -- an entity that was not there has one row
  pub rows_begin : (t : Entity) (r : Rank) (place : Option ℕ) (es : List ((String Y × String Y) × Held Y)) (m n : Held Y) → lookup (at_entity t) es ≡ None → m.entries ≡ []
      → KeepsOthers (λ x y. is_rank (rank_in x) (rank_in y)) (at_rank r) m.entries n.entries → lookup (at_rank r) n.entries ≡ place
      → (s : Rank) → lookup (is_rank s) (rows_in n) ≡ (if is_rank r s then place else row_place_at (entities_in es) t s)
  rows_begin t r place es m n there empty keeps got s =
      row_seen n s ∙ read_after rank_in is_rank rank_exact rank_itself r m.entries n.entries place keeps got s
      ∙ ap (λ o. if is_rank r s then place else o) (ap (lookup (at_rank s)) empty ∙ sym (place_seen es t s ∙ ap (λ o. lookup (is_rank s) (option_map_or (λ (rows : Rows). rows) (option_map rows_in o) [])) there))

  -- an entity that isn't there has no row to take out
  pub nothing_there : (t : Entity) (r : Rank) (es : List ((String Y × String Y) × Held Y)) → lookup (at_entity t) es ≡ None → SetsSlot (Some (t, r)) None (entities_in es) (entities_in es)
  nothing_there t r es there = λ u s.
      elim (is_entity t u) as (λ b. is_entity t u ≡ b → row_place_at (entities_in es) u s ≡ (if b && is_rank r s then None else row_place_at (entities_in es) u s)) [
        | true ↦ λ e.
            let none : row_place_at (entities_in es) u s ≡ None = place_seen es u s ∙ ap (λ o. lookup (is_rank s) (option_map_or (λ (rows : Rows). rows) (option_map rows_in o) [])) (ap (λ x. lookup (at_entity x) es) (sym (entity_exact t u e)) ∙ there) in
            elim (is_rank r s) as (λ b. row_place_at (entities_in es) u s ≡ (if b then None else row_place_at (entities_in es) u s)) [ true ↦ none | false ↦ refl ]
        | false ↦ λ e. refl
      ] refl

  -- what was read, put back as it was
  pub put_back : (t : Entity) (es fs : List ((String Y × String Y) × Held Y)) (m n : Held Y) → lookup (at_entity t) es ≡ Some m → fs ≡ set_value (at_entity t) es n → n.entries ≡ m.entries → entities_in fs ≡ entities_in es
  put_back t es fs m n there is same =
      ap entities_in is ∙ written es there
    where
      written : (es : List ((String Y × String Y) × Held Y)) → lookup (at_entity t) es ≡ Some m → entities_in (set_value (at_entity t) es n) ≡ entities_in es
      written [] h = refl
      written (e ∷ es) h =
          elim (at_entity t e.0) as (λ b. cond b (Some e.1) (lookup (at_entity t) es) ≡ Some m → entities_in (cond b ((e.0, n) ∷ es) (e ∷ set_value (at_entity t) es n)) ≡ entities_in (e ∷ es)) [
            | true ↦ λ h. let own : e.1 ≡ m = cc in ap (λ l. (entity_in e.0, map (λ (r : (ℕ × String Y) × ℕ). (rank_in r.0, r.1)) l) ∷ entities_in es) (same ∙ sym (ap (λ (m : Held Y). m.entries) own))
            | false ↦ λ h. ap (λ l. (entity_in e.0, rows_in e.1) ∷ l) (written es h)
          ] h

  -- the last row of an entity went, and the entity with it
  pub entity_goes : (t : Entity) (r : Rank) (es ms fs : List ((String Y × String Y) × Held Y)) (m n : Held Y) → lookup (at_entity t) es ≡ Some m
      → KeepsOthers (λ x y. is_entity (entity_in x) (entity_in y)) (at_entity t) es ms → KeepsOthers (λ x y. is_entity (entity_in x) (entity_in y)) (at_entity t) ms fs → lookup (at_entity t) fs ≡ None
      → KeepsOthers (λ x y. is_rank (rank_in x) (rank_in y)) (at_rank r) m.entries n.entries → lookup (at_rank r) n.entries ≡ None → length n.entries ≡ 0
      → SetsSlot (Some (t, r)) None (entities_in es) (entities_in fs)
  entity_goes t r es ms fs m n there first second gone keeps got none =
      puts_at t r None es fs None (keeps_both _ _ es ms fs first second) gone
      (λ s. sym (ap (λ l. lookup (is_rank s) (map (λ (r : (ℕ × String Y) × ℕ). (rank_in r.0, r.1)) l)) (empty n.entries none)) ∙ rows_change t r None es m n there keeps got s)
    where
      empty : {X : Type 0} (l : List X) → length l ≡ 0 → l ≡ []
      empty [] h = refl
      empty (x ∷ l) h = absurd (omega (arith, h))
