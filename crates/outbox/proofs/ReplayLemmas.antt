-- The turns of a replay.
use Rattle.std.proofs.Common.{◌≡◌, ◌≢◌, ◌⊎◌, inl, inr, pos, ap₂, drop, drop-cons, append-nil, append_assoc, ℕ, zero, suc, ◌+◌, ◌<◌, ◌≤◌, eqb, length, take, get_or, List, [], ◌∷◌, ◌++◌, Bool, true, false, cond, if◌then◌else◌, Option, Some, None, is_eq, nat_cmp, refl, sym, ap, subst, ◌∙◌, arith}
use Rattle.std.proofs.lemmas.Bool.Decides.{nat_tests}
use Rattle.std.proofs.lemmas.List.{take_more, take_all, take-append-drop}
use Rattle.std.specs.BTreeMap.{BTreeMap, get}
use Rattle.std.specs.List.{AllZip}
use Rattle.sqlite_value.specs.Order.{Row, column}
use Rattle.sqlite_value.specs.declared.value.Value.{Value}
use Rattle.sqlite_value.specs.declared.value.Value.TheVariants.{Int}
use Rattle.std.specs.Option.{option_or}
use Rattle.sqlite_rules.specs.Lists.{Has}
use Rattle.attributes.specs.Sequence.{max_sequence}
use Rattle.outbox.specs.Order.{Accepted, AreAccepted, IsCommand, orders_of, placed_by, refusal, status_fault, status_of}
use Rattle.outbox.specs.Service.{code}
use Rattle.outbox.specs.declared.fault.OutboxFault.{OutboxFault}
use Rattle.outbox.specs.steps.Change.{stored_row, stored_rows, stored_order, ShowOrders}
use Rattle.outbox.specs.steps.Replay.{HasReplayed, IsReplay, HasMatched}
use Rattle.outbox.specs.declared.adoption.Replayed.{Replayed}
use Rattle.outbox.specs.declared.status.Status.{Status}
use Rattle.outbox.proofs.ListLemmas.{has_left, has_right, has_either}
use Rattle.outbox.proofs.PutLemmas.{status_snoc, accepted_snoc}
use Rattle.outbox.proofs.ServiceLemmas.{not_full, refused_none, same_status}
use Rattle.outbox.proofs.CountLemmas.{orders_snoc}

shown_snoc : (n : ℕ) (commands : List Accepted) (c : Accepted) → stored_rows n (commands ++ c ∷ []) ≡ stored_rows n commands ++ stored_row (n + length commands) c ∷ []
shown_snoc n [] c = ap (λ k. stored_row k c ∷ []) (let e : n ≡ n + 0 = omega arith in e)
shown_snoc n (d ∷ commands) c =
    ap (λ rows. stored_row n d ∷ rows) (shown_snoc (suc n) commands c ∙ ap (λ k. stored_rows (suc n) commands ++ stored_row k c ∷ []) (let e : suc n + length commands ≡ n + suc (length commands) = omega arith in e))

at_is : (m n : ℕ) → is_eq (nat_cmp m n) ≡ eqb m n
at_is m n = grind (arith, nat_tests)

pub replay_on : (base : ℕ) (rows : List Row) (at : ℕ) (m new : BTreeMap ℕ Status) (orders placed last : ℕ) (row : Row) (c : Accepted) → at < length rows → row ≡ get_or rows at row → last < max_sequence → row ≡ stored_row (last + 1) c → IsCommand c
    → status_fault c.status (get nat_cmp m c.order) ≡ None → ((q : ℕ) → get nat_cmp new q ≡ cond (is_eq (nat_cmp c.order q)) (Some c.status) (get nat_cmp m q)) → placed ≡ length (placed_by c.status c.order) → placed ≤ 1 → HasReplayed base rows at m orders last → HasReplayed base rows (at + 1) new (orders + placed) (last + 1)
replay_on base rows at m new orders placed last row c low is room shown command fits updates placed_is one h = record {
  commands = h.commands ++ c ∷ [];
  rows_are = take_more rows at row low ∙ ap (λ r. take at rows ++ r ∷ []) (sym is) ∙ ap (λ xs. xs ++ row ∷ []) h.rows_are ∙ ap (λ r. stored_rows (suc base) h.commands ++ r ∷ []) (shown ∙ ap (λ k. stored_row k c) number) ∙ sym (shown_snoc (suc base) h.commands c);
  accepted = accepted_snoc base [] h.commands c h.accepted command (refused_none base h.commands c.status c.order (ap (status_fault c.status) (sym (h.statuses c.order)) ∙ fits) (omega (arith, room, h.last_is)));
  statuses = λ order. updates order ∙ ap (λ b. cond b (Some c.status) (get nat_cmp m order)) (at_is c.order order) ∙ ap (λ o. cond (eqb c.order order) (Some c.status) o) (h.statuses order) ∙ sym (status_snoc h.commands c order);
  orders_are = (let e : orders + placed ≡ length (orders_of (h.commands ++ c ∷ [])) = omega (arith, placed_is, h.orders_are, orders_snoc h.commands c) in e);
  few = (let e : base + (orders + placed) ≤ last + 1 = omega (arith, one, h.few) in e);
  last_is = (let e : last + 1 ≡ base + length (h.commands ++ c ∷ []) = omega (arith, h.last_is, Rattle.std.proofs.Common.length-append h.commands (c ∷ [])) in e);
  high = omega (arith, room);
}
  where
    number : last + 1 ≡ suc base + length h.commands
    number = omega (arith, h.last_is)

pub replay_all : (base : ℕ) (rows : List Row) (at : ℕ) (r : Replayed) → length rows ≤ at → HasReplayed base rows at r.statuses r.orders r.last → IsReplay base rows r
replay_all base rows at r high h = record { commands = h.commands; rows_are = sym (take_all at rows high) ∙ h.rows_are; accepted = h.accepted; statuses = h.statuses; orders = h.orders_are; last = h.last_is }

-- ---- a row that stops a replay

pub row_tells : (m n : ℕ) (c d : Accepted) → stored_row m c ≡ stored_row n d → c ≡ d
row_tells m n c d h =
    let kinds : ◌≡◌ {A = Value} (Int (pos (code c.status))) (Int (pos (code d.status))) = ap (λ r. column r 1) h in
    let status = same_status c.status d.status kinds in
    let order : c.order ≡ d.order = cc in
    let at : c.at ≡ d.at = cc in
    ap (λ s. made s c.order c.at) status ∙ ap (λ o. made d.status o c.at) order ∙ ap (λ t. made d.status d.order t) at
  where
    made : Status → ℕ → List ℕ → Accepted
    made s o t = record { status = s; order = o; at = t }

-- rows tell their commands
pub rows_tell : (n : ℕ) (A B : List Accepted) → stored_rows n A ≡ stored_rows n B → A ≡ B
rows_tell n [] [] h = refl
rows_tell n [] (d ∷ B) h = absurd (cc)
rows_tell n (c ∷ A) [] h = absurd (cc)
rows_tell n (c ∷ A) (d ∷ B) h =
    let head : stored_row n c ≡ stored_row n d = cc in
    let tail : stored_rows (suc n) A ≡ stored_rows (suc n) B = cc in
    ap₂ ◌∷◌ (row_tells n n c d head) (rows_tell (suc n) A B tail)

met : (n : ℕ) (A : List Accepted) (row : Row) (rest : List Row) (l : List Accepted) → stored_rows n A ++ row ∷ rest ≡ stored_rows n l → (c : Accepted) × (after : List Accepted) × (l ≡ A ++ c ∷ after) × (row ≡ stored_row (n + length A) c)
met n [] row rest [] h = absurd (cc)
met n [] row rest (c ∷ l) h = (c, l, refl, (let one : row ≡ stored_row n c = cc in one) ∙ ap (λ k. stored_row k c) (let e : n ≡ n + 0 = omega arith in e))
met n (a ∷ A) row rest [] h = absurd (cc)
met n (a ∷ A) row rest (d ∷ l) h =
    let head : stored_row n a ≡ stored_row n d = cc in
    let tail : stored_rows (suc n) A ++ row ∷ rest ≡ stored_rows (suc n) l = cc in
    let it = met (suc n) A row rest l tail in
    (it.0, it.1, ap₂ ◌∷◌ (sym (row_tells n n a d head)) it.2, it.3 ∙ ap (λ k. stored_row k it.0) (let e : suc n + length A ≡ n + suc (length A) = omega arith in e))

accepted_at : (base : ℕ) (before A : List Accepted) (c : Accepted) (after : List Accepted) → AreAccepted base before (A ++ c ∷ after) → IsCommand c × (refusal base (before ++ A) c.status c.order ≡ None)
accepted_at base before [] c after h = (h.0, subst (λ l. refusal base l c.status c.order ≡ None) (sym (append-nil before)) h.1)
accepted_at base before (a ∷ A) c after h =
    let it = accepted_at base (before ++ a ∷ []) A c after h.2 in
    (it.0, subst (λ l. refusal base l c.status c.order ≡ None) (append_assoc before (a ∷ []) A) it.1)

-- the next row of a service is that of a command that is not refused
pub next_row : (base : ℕ) (rows : List Row) (at : ℕ) (m : BTreeMap ℕ Status) (orders last : ℕ) (row : Row) (l : List Accepted) → at < length rows → row ≡ get_or rows at row → (h : HasReplayed base rows at m orders last) → AreAccepted base [] l → rows ≡ stored_rows (suc base) l
    → (c : Accepted) × IsCommand c × (refusal base h.commands c.status c.order ≡ None) × (row ≡ stored_row (last + 1) c)
next_row base rows at m orders last row l low is h accepted shown =
    let cut : take at rows ++ row ∷ drop (suc at) rows ≡ rows = ap (λ r. take at rows ++ r ∷ drop (suc at) rows) is ∙ ap (λ xs. take at rows ++ xs) (sym (drop-cons rows at row low)) ∙ take-append-drop at rows in
    let it = met (suc base) h.commands row (drop (suc at) rows) l (ap (λ xs. xs ++ row ∷ drop (suc at) rows) (sym h.rows_are) ∙ cut ∙ shown) in
    let one = accepted_at base [] h.commands it.0 it.1 (subst (AreAccepted base []) it.2 accepted) in
    (it.0, one.0, one.1, it.3 ∙ ap (λ k. stored_row k it.0) (let e : suc base + length h.commands ≡ last + 1 = omega (arith, h.last_is) in e))

pub stops_full : (base : ℕ) (rows : List Row) (at : ℕ) (m : BTreeMap ℕ Status) (orders last : ℕ) (row : Row) (l : List Accepted) → at < length rows → row ≡ get_or rows at row → HasReplayed base rows at m orders last → last ≡ max_sequence → AreAccepted base [] l
    → rows ≢ stored_rows (suc base) l
stops_full base rows at m orders last row l low is h full accepted shown =
    let it = next_row base rows at m orders last row l low is h accepted shown in
    let apart = not_full (status_fault it.0.status (status_of h.commands it.0.order)) _ it.2 in
    let same : eqb (base + length h.commands) max_sequence ≡ true = grind (arith, nat_tests, full, h.last_is) in
    absurd (let e : ◌≡◌ {A = Bool} true false = sym same ∙ apart in cc)

pub stops_at : (base : ℕ) (rows : List Row) (at : ℕ) (m : BTreeMap ℕ Status) (orders last : ℕ) (row : Row) (l : List Accepted) → at < length rows → row ≡ get_or rows at row → HasReplayed base rows at m orders last → ((c : Accepted) → IsCommand c → row ≢ stored_row (last + 1) c)
    → AreAccepted base [] l → rows ≢ stored_rows (suc base) l
stops_at base rows at m orders last row l low is h none accepted shown =
    let it = next_row base rows at m orders last row l low is h accepted shown in
    none it.0 it.1 it.3

pub first_none : (x : Option OutboxFault) (y : Option OutboxFault) → option_or x y ≡ None → x ≡ None
first_none None y h = refl
first_none (Some f) y h = absurd (cc)

pub stops_refused : (base : ℕ) (rows : List Row) (at : ℕ) (m : BTreeMap ℕ Status) (orders last : ℕ) (row : Row) (l : List Accepted) (c : Accepted) (f : OutboxFault) → at < length rows → row ≡ get_or rows at row → HasReplayed base rows at m orders last
    → row ≡ stored_row (last + 1) c → status_fault c.status (get nat_cmp m c.order) ≡ Some f → AreAccepted base [] l → rows ≢ stored_rows (suc base) l
stops_refused base rows at m orders last row l c f low is h here refused accepted shown =
    let it = next_row base rows at m orders last row l low is h accepted shown in
    let same : c ≡ it.0 = row_tells (last + 1) (last + 1) c it.0 (sym here ∙ it.3) in
    let none : status_fault it.0.status (status_of h.commands it.0.order) ≡ None = first_none _ _ it.2 in
    let some : status_fault it.0.status (status_of h.commands it.0.order) ≡ Some f = subst (λ d. status_fault d.status (status_of h.commands d.order) ≡ Some f) same (ap (status_fault c.status) (sym (h.statuses c.order)) ∙ refused) in
    absurd (let e : ◌≡◌ {A = Option OutboxFault} None (Some f) = sym none ∙ some in cc)

-- ---- orders and their rows

pub match_none : (rows : List Row) (all left : BTreeMap ℕ Status) → left.entries ≡ all.entries → HasMatched rows 0 all left
match_none rows all left is = record {
  sound = λ r h. absurd h;
  rest = λ order status h. inl (same order ∙ h);
  within = λ order status h. sym (same order) ∙ h;
  gone = λ order status h. absurd h;
}
  where
    same : (order : ℕ) → get nat_cmp left order ≡ get nat_cmp all order
    same order = ap (λ es. Rattle.std.specs.Map.lookup (λ q. is_eq (nat_cmp order q)) es) is

order_tells : (m n : ℕ) (s t : Status) → stored_order m s ≡ stored_order n t → (m ≡ n) × (s ≡ t)
order_tells m n s t h =
    let kinds : ◌≡◌ {A = Value} (Int (pos (code s))) (Int (pos (code t))) = ap (λ r. column r 1) h in
    let number : m ≡ n = cc in
    (number, same_status s t kinds)

removed : (n q : ℕ) (s t : Status) (o : Option Status) → cond (is_eq (nat_cmp n q)) None o ≡ Some t → o ≡ Some t
removed n q s t o h = go (is_eq (nat_cmp n q)) h
  where
    go : (b : Bool) → cond b None o ≡ Some t → o ≡ Some t
    go true k = absurd (cc)
    go false k = k

pub match_on : (rows : List Row) (at : ℕ) (all left new : BTreeMap ℕ Status) (row : Row) (n : ℕ) (s : Status) → at < length rows → row ≡ get_or rows at row → row ≡ stored_order n s → get nat_cmp all n ≡ Some s
    → ((q : ℕ) → get nat_cmp new q ≡ cond (is_eq (nat_cmp n q)) None (get nat_cmp left q)) → HasMatched rows at all left → HasMatched rows (at + 1) all new
match_on rows at all left new row n s low is shown has updates h = record {
  sound = λ r k. elim (has_either (take at rows) (row ∷ []) r (subst (λ l. Has l r) more k)) [
    | inl before ↦ h.sound r before
    | inr (inl now) ↦ (n, s, now ∙ shown, has)
    | inr (inr none) ↦ absurd none
  ];
  rest = λ order status k. subst (λ l. (get nat_cmp new order ≡ Some status) ⊎ Has l (stored_order order status)) (sym more) (elim (h.rest order status k) [
    | inl still ↦ here order status still (is_eq (nat_cmp n order)) refl
    | inr before ↦ inr (has_left (take at rows) (row ∷ []) (stored_order order status) before)
  ]);
  within = λ order status k. h.within order status (removed n order s status (get nat_cmp left order) (sym (updates order) ∙ k));
  gone = λ order status k. elim (has_either (take at rows) (row ∷ []) (stored_order order status) (subst (λ l. Has l (stored_order order status)) more k)) [
    | inl before ↦ updates order ∙ ap (cond (is_eq (nat_cmp n order)) None) (h.gone order status before) ∙ cond_none (is_eq (nat_cmp n order))
    | inr (inl now) ↦ (let same : n ≡ order = sym (order_tells order n status s (now ∙ shown)).0 in
        updates order ∙ ap (λ b. cond b None (get nat_cmp left order)) (at_is n order ∙ (let e : eqb n order ≡ true = grind (arith, nat_tests, same) in e)))
    | inr (inr none) ↦ absurd none
  ];
}
  where
    more : take (at + 1) rows ≡ take at rows ++ row ∷ []
    more = take_more rows at row low ∙ ap (λ r. take at rows ++ r ∷ []) (sym is)

    cond_none : (b : Bool) → ◌≡◌ {A = Option Status} (cond b None None) None
    cond_none true = refl
    cond_none false = refl

    here : (order : ℕ) (status : Status) → get nat_cmp left order ≡ Some status → (b : Bool) → is_eq (nat_cmp n order) ≡ b → (get nat_cmp new order ≡ Some status) ⊎ Has (take at rows ++ row ∷ []) (stored_order order status)
    here order status still true e =
        let same : n ≡ order = grind (arith, nat_tests, (let f : eqb n order ≡ true = sym (at_is n order) ∙ e in f)) in
        let one : ◌≡◌ {A = Option Status} (Some s) (Some status) = sym has ∙ (ap (get nat_cmp all) same ∙ h.within order status still) in
        let both : s ≡ status = cc in
        inr (has_right (take at rows) (row ∷ []) (stored_order order status) (inl (sym (shown ∙ ap₂ stored_order same both))))
    here order status still false e = inl (updates order ∙ ap (λ b. cond b None (get nat_cmp left order)) e ∙ still)

pub match_all : (rows : List Row) (at : ℕ) (all left : BTreeMap ℕ Status) (commands : List Accepted) → length rows ≤ at → left.entries ≡ [] → HasMatched rows at all left → ((order : ℕ) → get nat_cmp all order ≡ status_of commands order) → ShowOrders rows commands
match_all rows at all left commands high empty h told = record {
  sound = λ r k. let it = h.sound r (subst (λ l. Has l r) (sym whole) k) in (it.0, it.1, it.2, sym (told it.0) ∙ it.3);
  complete = λ order status k. subst (λ l. Has l (stored_order order status)) whole (elim (h.rest order status (told order ∙ k)) [
    | inl still ↦ absurd (let none : ◌≡◌ {A = Option Status} None (Some status) = sym (ap (λ es. Rattle.std.specs.Map.lookup (λ q. is_eq (nat_cmp order q)) es) empty) ∙ still in cc)
    | inr there ↦ there
  ]);
}
  where
    whole : take at rows ≡ rows
    whole = take_all at rows high

has_at : (rows : List Row) (at : ℕ) (row : Row) → at < length rows → row ≡ get_or rows at row → Has rows row
has_at [] at row low is = absurd (omega (arith, low))
has_at (r ∷ rows) zero row low is = inl is
has_at (r ∷ rows) (suc at) row low is = inr (has_at rows at row (omega (arith, low)) is)

-- rows of other orders, or of orders with other statuses
pub no_order : (rows : List Row) (at : ℕ) (row : Row) (commands : List Accepted) → at < length rows → row ≡ get_or rows at row → ((order : ℕ) (status : Status) → row ≢ stored_order order status) → ¬ ShowOrders rows commands
no_order rows at row commands low is none h = let it = h.sound row (has_at rows at row low is) in none it.0 it.1 it.2

pub other_status : (rows : List Row) (at : ℕ) (row : Row) (all : BTreeMap ℕ Status) (n : ℕ) (s : Status) (commands : List Accepted) → at < length rows → row ≡ get_or rows at row → row ≡ stored_order n s → get nat_cmp all n ≢ Some s
    → ((order : ℕ) → get nat_cmp all order ≡ status_of commands order) → ¬ ShowOrders rows commands
other_status rows at row all n s commands low is shown other told h =
    let it = h.sound row (has_at rows at row low is) in
    let same = order_tells n it.0 s it.1 (sym shown ∙ it.2) in
    other (told n ∙ ap (status_of commands) same.0 ∙ it.3 ∙ ap (λ t. Some t) (sym same.1))

-- each order has its row, so that none is left
pub all_gone : (rows : List Row) (at : ℕ) (all left : BTreeMap ℕ Status) (commands : List Accepted) → length rows ≤ at → HasMatched rows at all left → ((order : ℕ) → get nat_cmp all order ≡ status_of commands order) → ShowOrders rows commands → left.entries ≡ []
all_gone rows at all left commands high h told orders = go left.entries refl
  where
    go : (es : List (ℕ × Status)) → left.entries ≡ es → left.entries ≡ []
    go [] e = e
    go ((n, s) ∷ es) e =
        let test : is_eq (nat_cmp n n) ≡ true = at_is n n ∙ (let e : eqb n n ≡ true = grind (arith, nat_tests) in e) in
        let found : get nat_cmp left n ≡ Some s = ap (λ es. Rattle.std.specs.Map.lookup (λ q. is_eq (nat_cmp n q)) es) e ∙ (rw test refl) in
        let row = orders.complete n s (sym (told n) ∙ h.within n s found) in
        let none = h.gone n s (subst (λ l. Has l (stored_order n s)) (sym (take_all at rows high)) row) in
        absurd (let e : ◌≡◌ {A = Option Status} None (Some s) = sym none ∙ found in cc)

-- a map's clone has the entries of the map
pub cloned : (xs ys : List (ℕ × Status)) → AllZip (λ (p q : ℕ × Status). (q.0 ≡ p.0) × (q.1 ≡ p.1)) xs ys → ys ≡ xs
cloned [] [] h = refl
cloned [] (y ∷ ys) h = absurd h
cloned (x ∷ xs) [] h = absurd h
cloned (x ∷ xs) (y ∷ ys) h = ap₂ ◌∷◌ (ap (λ n. (n, y.1)) h.0.0 ∙ ap (λ s. (x.0, s)) h.0.1) (cloned xs ys h.1)

pub no_entry : {X : Type 0} (xs : List X) → length xs ≡ 0 → xs ≡ []
no_entry [] h = refl
no_entry (x ∷ xs) h = absurd (omega (arith, h))
