-- What a service is once its file is opened again.
use Rattle.std.proofs.Common.{◌≡◌, inl, inr, ◌+◌, ℕ, List, [], ◌∷◌, ◌++◌, Bool, true, false, Option, None, Some, eqb, cond, count_by, is_some, if◌then◌else◌, refl, sym, ap, subst, ◌∙◌, arith, append_assoc}
use Rattle.std.proofs.lemmas.Bool.Decides.{nat_tests}
use Rattle.std.proofs.lemmas.List.Concat.{flat_map-append}
use Rattle.std.proofs.lemmas.List.Sums.{sum_by-append}
use Rattle.sqlite.specs.Effect.{Database}
use Rattle.database_layout.specs.Law.{TreesTellTables}
use Rattle.outbox.specs.Call.{IsFounded}
use Rattle.outbox.specs.Law.{OrdersHaveAStatus, StopsLeaveANewServiceOrNone, StopsLeaveAService}
use Rattle.outbox.specs.Order.{Accepted, AreAccepted, orders_of, placed_by, status_fault, status_of}
use Rattle.outbox.specs.Service.{IsService}
use Rattle.outbox.specs.declared.fault.OutboxFault.{OutboxFault}
use Rattle.outbox.specs.declared.status.Status.{Status}
use Rattle.outbox.specs.declared.status.Status.TheVariants.{Placed, Shipped, Cancelled}
use Rattle.outbox.proofs.PutLemmas.{status_snoc}
use Rattle.outbox.proofs.ReplayLemmas.{first_none}

pub found_again : TreesTellTables → StopsLeaveAService
found_again tell source base commands c old again sound back service (inl before) =
    inl (subst (λ (d : Database). IsService d source base commands) (sym (tell old again sound back before)) service)
found_again tell source base commands c old again sound back service (inr after) =
    inr (subst (λ (d : Database). IsService d source base (commands ++ c ∷ [])) (sym (tell after.db again after.sound back after.are)) (after.service commands service))

pub new_again : TreesTellTables → StopsLeaveANewServiceOrNone
new_again tell source base old again sound back (inl before) = inl (tell old again sound back before)
new_again tell source base old again sound back (inr after) =
    inr (subst (λ (d : Database). IsFounded source base old d) (sym (tell after.db again after.sound back after.are)) after.founded)

-- ---- orders and their statuses

abbrev times : ℕ → List ℕ → ℕ
times n orders = count_by (λ m. eqb m n) orders

abbrev told : Option Status → ℕ
told o = if is_some o then 1 else 0

abbrev one_if : Bool → ℕ
one_if b = cond b 1 0

one_more : (b : Bool) → 0 + one_if b ≡ one_if b
one_more true = refl
one_more false = refl

times_one : (m n : ℕ) → times n (m ∷ []) ≡ one_if (eqb m n)
times_one m n = one_more (eqb m n)

-- a command that is accepted places an order that isn't there, or changes one that is
placed_once : (s : Status) (n : ℕ) (was : Option Status) → status_fault s was ≡ None → told was + times n (placed_by s n) ≡ 1
placed_once Placed n None fits =
    let same : eqb n n ≡ true = grind (arith, nat_tests) in
    let here : times n (n ∷ []) ≡ 1 = times_one n n ∙ ap one_if same in
    omega (arith, here)
placed_once Placed n (Some s) fits = absurd (cc)
placed_once Shipped n None fits = absurd (cc)
placed_once Shipped n (Some Placed) fits = refl
placed_once Shipped n (Some Shipped) fits = absurd (cc)
placed_once Shipped n (Some Cancelled) fits = absurd (cc)
placed_once Cancelled n None fits = absurd (cc)
placed_once Cancelled n (Some Placed) fits = refl
placed_once Cancelled n (Some Shipped) fits = absurd (cc)
placed_once Cancelled n (Some Cancelled) fits = absurd (cc)

placed_apart : (s : Status) (m n : ℕ) → eqb m n ≡ false → times n (placed_by s m) ≡ 0
placed_apart Placed m n apart = times_one m n ∙ ap one_if apart
placed_apart Shipped m n apart = refl
placed_apart Cancelled m n apart = refl

-- so far
abbrev AreTold : List Accepted → Type 0
AreTold commands = (n : ℕ) → times n (orders_of commands) ≡ told (status_of commands n)

told_on : (commands : List Accepted) (c : Accepted) → status_fault c.status (status_of commands c.order) ≡ None → AreTold commands → AreTold (commands ++ c ∷ [])
told_on commands c fits so_far n = split ∙ go (eqb c.order n) refl
  where
    split : times n (orders_of (commands ++ c ∷ [])) ≡ times n (orders_of commands) + times n (placed_by c.status c.order)
    split =
        ap (times n) (flat_map-append (λ (d : Accepted). placed_by d.status d.order) commands (c ∷ []) ∙ ap (λ l. orders_of commands ++ l) (Rattle.std.proofs.Common.append-nil (placed_by c.status c.order)))
        ∙ sum_by-append (λ m. if eqb m n then 1 else 0) (orders_of commands) (placed_by c.status c.order)

    now : (b : Bool) → eqb c.order n ≡ b → told (status_of (commands ++ c ∷ []) n) ≡ told (if b then Some c.status else status_of commands n)
    now b e = ap told (status_snoc commands c n ∙ ap (λ a. if a then Some c.status else status_of commands n) e)

    go : (b : Bool) → eqb c.order n ≡ b → times n (orders_of commands) + times n (placed_by c.status c.order) ≡ told (status_of (commands ++ c ∷ []) n)
    go true e =
        let same : c.order ≡ n = grind (arith, nat_tests, e) in
        let once : told (status_of commands n) + times n (placed_by c.status n) ≡ 1 = placed_once c.status n (status_of commands n) (subst (λ m. status_fault c.status (status_of commands m) ≡ None) same fits) in
        let here : times n (placed_by c.status c.order) ≡ times n (placed_by c.status n) = ap (λ m. times n (placed_by c.status m)) same in
        (let all : times n (orders_of commands) + times n (placed_by c.status c.order) ≡ 1 = omega (arith, so_far n, here, once) in all) ∙ sym (now true e)
    go false e =
        (let all : times n (orders_of commands) + times n (placed_by c.status c.order) ≡ told (status_of commands n) = omega (arith, so_far n, placed_apart c.status c.order n e) in all) ∙ sym (now false e)

told_all : (base : ℕ) (before commands : List Accepted) → AreTold before → AreAccepted base before commands → AreTold (before ++ commands)
told_all base before [] so_far h = subst AreTold (sym (Rattle.std.proofs.Common.append-nil before)) so_far
told_all base before (c ∷ commands) so_far h =
    subst AreTold (append_assoc before (c ∷ []) commands) (told_all base (before ++ c ∷ []) commands (told_on before c (first_none (status_fault c.status (status_of before c.order)) _ h.1) so_far) h.2)

pub orders_told : OrdersHaveAStatus
orders_told base commands accepted = told_all base [] commands (λ n. refl) accepted
