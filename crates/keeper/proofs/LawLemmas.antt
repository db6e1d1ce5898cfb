-- What is acknowledged is kept.
use Rattle.std.proofs.Common.{◌≡◌, ◌+◌, ◌-◌, ◌≤◌, ℕ, zero, suc, List, [], ◌∷◌, ◌++◌, length, take, drop, refl, sym, ap, ◌∙◌, subst, append_assoc, append-nil, arith}
use Rattle.std.proofs.lemmas.List.{length-drop}
use Rattle.std.proofs.Math.Seq.{take-append-add}
use Rattle.attributes.specs.Event.{EventValue}
use Rattle.inbox.specs.KeyOrder.{key_cmp}
use Rattle.inbox_table.specs.Rows.{IsInbox}
use Rattle.site.specs.Machine.{arrivals_after, call, handled_by}
use Rattle.site.specs.Page.{page}
use Rattle.site.specs.declared.call.Call.{Call}
use Rattle.site.specs.declared.call.Command.TheVariants as command
use Rattle.site.specs.declared.call.Reply.TheVariants.{Paged}
use Rattle.site_lock.specs.Law.{CallsFollow}
use Rattle.site_lock.specs.Pass.{leave, leaves}
use Rattle.turn_lock.specs.declared.machine.Entry.{Entry}
use Rattle.keeper.proofs.NewLemmas.{grows}
use Rattle.keeper.proofs.PageLemmas.{first_in}
use Rattle.keeper.specs.Law.{AcknowledgedAreKept, FirstArrivalsStay}

none_left : {X : Type 0} → (l : List X) (limit : ℕ) → 1 ≤ limit → [] ≡ take limit l → l ≡ []
none_left [] limit low is = refl
none_left (x ∷ xs) zero low is = absurd (omega (arith, low))
none_left (x ∷ xs) (suc k) low is = absurd (cc)

pub leave-append : (A : List EventValue) (xs ys : List (Entry Call)) → leave A (xs ++ ys) ≡ leave (leave A xs) ys
leave-append A [] ys = refl
leave-append A (e ∷ es) ys = leave-append (arrivals_after A e.call) es ys

pub leave_grows : (A : List EventValue) (log : List (Entry Call)) → (others : List EventValue) × (leave A log ≡ A ++ others)
leave_grows A [] = ([], sym (append-nil A))
leave_grows A (e ∷ es) = let p = grows key_cmp A (handled_by e.call.command e.call.reply) in let q = leave_grows (arrivals_after A e.call) es in
    (p.0 ++ q.0, q.1 ∙ (ap (λ (z : List EventValue). z ++ q.0) p.1 ∙ append_assoc A p.0 q.0))

first_are : (A more : List EventValue) (mark : ℕ) → length A ≤ mark → take mark (A ++ more) ≡ A ++ take (mark - length A) more
first_are A more mark low = let e : mark ≡ length A + (mark - length A) = omega (arith, low) in ap (λ k. take k (A ++ more)) e ∙ take-append-add A more (mark - length A)

-- the first arrivals stay the first
pub first_stay : FirstArrivalsStay
first_stay db rows opening seen more first =
    let g = leave_grows (leave opening seen) more in
    first_in db rows (leave opening seen) (leave opening (seen ++ more)) g.0 (leave-append opening seen more ∙ g.1) first

pub kept : CallsFollow → AcknowledgedAreKept
kept follow db mark n limit p q r made low opening seen reached h =
    let f = follow p q (call (command.Fresh n limit) (Paged [])) made in
    let asked : [] ≡ page (leaves q) n limit = f.1 ∙ ap (λ (z : List EventValue). page z n limit) (sym f.2) in
    let none = ap (λ (z : List EventValue). length z) (none_left (drop n (leaves q)) limit low asked) in
    let few : length (leaves q) ≤ mark = (let l = length-drop n (leaves q) in omega (arith, l, none, reached)) in
    let g = leave_grows (leaves q) seen.0 in
    let all : leaves r ≡ leaves q ++ g.0 = ap (λ (z : List EventValue). leave z r.seen) opening ∙ (ap (leave q.opening) seen.1 ∙ (leave-append q.opening q.seen seen.0 ∙ g.1)) in
    (take (mark - length (leaves q)) g.0, subst (IsInbox db) (ap (take mark) all ∙ first_are (leaves q) g.0 mark few) h.table)
