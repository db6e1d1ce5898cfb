-- What a stream grew by, write by write.
use Rattle.std.proofs.Common.{◌≡◌, ℕ, zero, suc, List, [], ◌∷◌, ◌++◌, take, drop, refl, sym, ap, ap₂, ◌∙◌, subst, append_assoc, append-nil}
use Rattle.std.specs.Prelude.{Option, None, Some, unwrap_or}
use Rattle.std.specs.Io.KnownBytes.{Appends, Keeps}
use Rattle.std.proofs.KnownBytes.{Appends-nil, Appends-trans}
use Rattle.attributes.specs.Event.{EventValue}
use Rattle.databases.specs.Pages.{first_page, max_page, pages_below, pages_text}
use Rattle.databases.specs.Print.{batch_line}
use Rattle.line_intake.specs.Written.{Wrote}

-- ---- pages

-- the events behind the first n pages
abbrev pub behind : ℕ → List EventValue → List EventValue
behind zero es = es
behind (suc n) es = behind n (drop max_page es)

behind_next : (n : ℕ) (es : List EventValue) → behind (suc n) es ≡ drop max_page (behind n es)
behind_next zero es = refl
behind_next (suc n) es = behind_next n (drop max_page es)

behind_none : (n : ℕ) → behind n [] ≡ []
behind_none zero = refl
behind_none (suc n) = behind_none n

pages_next : (n : ℕ) (es : List EventValue) → pages_below (suc n) es ≡ pages_below n es ++ pages_below 1 (behind n es)
pages_next zero es = refl
pages_next (suc n) [] = sym (ap (λ es. pages_below 1 es) (behind_none (suc n)))
pages_next (suc n) (e ∷ es) =
    let line = batch_line (take max_page (e ∷ es)) in
    let rest = drop max_page (e ∷ es) in
    ap (λ l. line ++ l) (pages_next n rest) ∙ sym (append_assoc line (pages_below n rest) (pages_below 1 (behind n rest)))

-- the stream grew by some whole pages, and n more of the events that are left make all
pub record Paging (old now : Option (List ℕ)) (events left : List EventValue) (n : ℕ) : Type 0 where
  pub done : ℕ
  pub grown : Appends old now (pages_below done events)
  pub are_left : left ≡ behind done events
  pub all : pages_text events ≡ pages_below done events ++ pages_below n left

pub Paging-start : (a : Option (List ℕ)) (events : List EventValue) (n m : ℕ) → m ≡ n → pages_text events ≡ pages_below m events → Paging a a events events n
Paging-start a events n m is all = record { done = 0; grown = Appends-nil a; are_left = refl; all = all ∙ ap (λ k. pages_below k events) is }

pub Keeps-same : (a b : Option (List ℕ)) → b ≡ a → Keeps a b
Keeps-same a b is = subst (Keeps a) (sym is) (kept a)
  where
    kept : (x : Option (List ℕ)) → Keeps x x
    kept None = tt
    kept (Some y) = refl

-- a page more
pub Paging-more : (a b c : Option (List ℕ)) (events left new : List EventValue) (n m : ℕ) (line : List ℕ) → Paging a b events left n → n ≡ suc m
    → Some line ≡ first_page left → new ≡ drop max_page left → Appends b c line → Paging a c events new m
Paging-more a b c events [] new n m line p is none rest more = cc
Paging-more a b c events (e ∷ es) new n m line p is some rest more =
    let page : line ≡ batch_line (take max_page (e ∷ es)) = ap (λ (o : Option (List ℕ)). unwrap_or o []) some in
    let later : pages_below n (e ∷ es) ≡ line ++ pages_below m new =
    ap (λ k. pages_below k (e ∷ es)) is ∙ ap₂ (λ (l : List ℕ) (left : List EventValue). l ++ pages_below m left) (sym page) (sym rest) in
    let first : pages_below 1 (e ∷ es) ≡ line = append-nil (batch_line (take max_page (e ∷ es))) ∙ sym page in
    let next : pages_below (suc p.done) events ≡ pages_below p.done events ++ line =
    pages_next p.done events ∙ ap (λ l. pages_below p.done events ++ l) (ap (λ l. pages_below 1 l) (sym p.are_left) ∙ first) in
    record {
      done = suc p.done;
      grown = subst (Appends a c) (sym next) (Appends-trans a b c (pages_below p.done events) line p.grown more);
      are_left = rest ∙ ap (λ l. drop max_page l) p.are_left ∙ sym (behind_next p.done events);
      all = p.all ∙ ap (λ l. pages_below p.done events ++ l) later ∙ sym (append_assoc (pages_below p.done events) line (pages_below m new)) ∙ ap (λ l. l ++ pages_below m new) (sym next);
    }

-- the writing of a page failed
pub Paging-failed : (a b c : Option (List ℕ)) (events left : List EventValue) (n m : ℕ) (line rest : List ℕ) → Paging a b events left n → n ≡ suc m
    → Some line ≡ first_page left → Wrote b c line rest → (later : List ℕ) × Wrote a c (pages_text events) later
Paging-failed a b c events [] n m line rest p is none w = cc
Paging-failed a b c events (e ∷ es) n m line rest p is some w =
    let below = pages_below m (drop max_page (e ∷ es)) in
    let page : line ≡ batch_line (take max_page (e ∷ es)) = ap (λ (o : Option (List ℕ)). unwrap_or o []) some in
    let later : pages_below n (e ∷ es) ≡ line ++ below =
    ap (λ k. pages_below k (e ∷ es)) is ∙ ap (λ l. l ++ below) (sym page) in
    let before = pages_below p.done events in (
      rest ++ below,
      record {
        front = before ++ w.front;
        split = p.all ∙ ap (λ l. before ++ l) (later ∙ ap (λ l. l ++ below) w.split ∙ append_assoc w.front rest below)
            ∙ sym (append_assoc before w.front (rest ++ below));
        grown = Appends-trans a b c before w.front p.grown w.grown;
      },
    )

none_below : (n : ℕ) → pages_below n [] ≡ []
none_below zero = refl
none_below (suc n) = refl

-- nothing is left
pub Paging-none : (a b : Option (List ℕ)) (events left : List EventValue) (n : ℕ) → Paging a b events left n → None ≡ first_page left → Appends a b (pages_text events)
Paging-none a b events [] n p none =
    let before = pages_below p.done events in
    subst (Appends a b) (sym (p.all ∙ ap (λ l. before ++ l) (none_below n) ∙ append-nil before)) p.grown
Paging-none a b events (e ∷ es) n p none = cc

-- no more pages are to come
pub Paging-end : (a b : Option (List ℕ)) (events left : List EventValue) (n : ℕ) → Paging a b events left n → n ≡ 0 → Appends a b (pages_text events)
Paging-end a b events left n p is =
    let before = pages_below p.done events in
    subst (Appends a b) (sym (p.all ∙ ap (λ k. before ++ pages_below k left) is ∙ append-nil before)) p.grown
