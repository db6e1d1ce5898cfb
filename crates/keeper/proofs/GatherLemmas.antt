-- Page after page of what comes to a site.
use Rattle.std.proofs.Common.{◌≡◌, ◌+◌, ◌-◌, ◌*◌, ◌≤◌, ◌<◌, ℕ, zero, suc, List, [], ◌∷◌, ◌++◌, length, take, drop, refl, sym, ap, ◌∙◌, subst, append_assoc, append-nil, arith}
use Rattle.std.specs.Prelude.{min}
use Rattle.std.proofs.lemmas.List.{length-append, length-drop, length-take, take-append-le, drop-append-le, drop-drop, take_all}
use Rattle.std.proofs.Math.Seq.{take-add}
use Rattle.attributes.specs.Event.{EventValue}
use Rattle.site.specs.Machine.{Follows, call}
use Rattle.site.specs.Page.{page}
use Rattle.site.specs.declared.call.Call.{Call}
use Rattle.site.specs.declared.call.Command.{Command}
use Rattle.site.specs.declared.call.Command.TheVariants as command
use Rattle.site.specs.declared.call.Reply.{Reply}
use Rattle.site.specs.declared.call.Reply.TheVariants.{Paged, Refused}
use Rattle.turn_lock.specs.declared.machine.Entry.{Entry}
use Rattle.turn_lock.specs.History.{StartsWith, entry}
use Rattle.site_lock.specs.Pass.{IsSamePass, Made, ShownPass, leaves}
use Rattle.keeper.specs.Keep.{AsksFresh, AsksPages, AsksTimes, EndsPaged, EndsShort, EndsWithReply, max_page}

-- what questions leave of a pass
pub record Leaves (p q : ShownPass) : Type 0 where
  pub same : IsSamePass p q
  pub splits : q.splits ≡ p.splits
  pub seen : StartsWith q.seen p.seen

leaves_none : (p q : ShownPass) → q ≡ p → Leaves p q
leaves_none p q is = subst (λ z. Leaves p z) (sym is) (record {
  same = record { table = refl; number = refl; opening = refl };
  splits = refl;
  seen = ([], sym (append-nil p.seen));
})

leaves_one : (p q r : ShownPass) (rows : ℕ) → Leaves p q → AsksFresh rows q r → Leaves p r
leaves_one p q r rows one a = let m = a.1 in let e = entry q.number (call (command.Fresh rows max_page) a.0) in record {
  same = record {
    table = m.same.table ∙ one.same.table;
    number = m.same.number ∙ one.same.number;
    opening = m.same.opening ∙ one.same.opening;
  };
  splits = m.splits ∙ one.splits;
  seen = (
    one.seen.0 ++ (m.others ++ e ∷ []),
    m.seen ∙ (append_assoc q.seen m.others (e ∷ []) ∙ (ap (λ z. z ++ (m.others ++ e ∷ [])) one.seen.1 ∙ append_assoc p.seen one.seen.0 (m.others ++ e ∷ []))),
  );
}

times_leave : (times rows : ℕ) (p q : ShownPass) → AsksTimes times rows p q → Leaves p q
times_leave zero rows p q is = leaves_none p q is
times_leave (suc times) rows p q a = leaves_one p a.0 q (rows + max_page * times) (times_leave times rows p a.0 a.1) a.2

pub pages_leave : (pages rows : ℕ) (p q : ShownPass) → AsksPages pages rows p q → Leaves p q
pages_leave pages rows p q a = times_leave a.0 rows p q a.3

one_time : (times rows : ℕ) (p q : ShownPass) → 1 ≤ times → times ≤ 1 → AsksTimes times rows p q → AsksFresh rows p q
one_time zero rows p q some few a = absurd (omega (arith, some))
one_time (suc zero) rows p q some few a = subst (λ z. AsksFresh z p q) (omega arith) (subst (λ z. AsksFresh (rows + max_page * zero) z q) a.1 a.2)
one_time (suc (suc times)) rows p q some few a = absurd (omega (arith, few))

-- one page is asked for by one call
pub one_page : (rows : ℕ) (p q : ShownPass) → AsksPages 1 rows p q → AsksFresh rows p q
one_page rows p q a = one_time a.0 rows p q a.1 a.2 a.3

-- the pass asked so many times, and others only added
pub record HasAsked (from : ℕ) (p q : ShownPass) (count : ℕ) : Type 0 where
  pub asked : AsksTimes count from p q
  pub others : List EventValue
  pub added : leaves q ≡ leaves p ++ others

pub none_asked : (from : ℕ) (p : ShownPass) → HasAsked from p p 0
none_asked from p = record { asked = refl; others = []; added = sym (append-nil (leaves p)) }

pub asked_on : (from : ℕ) (p q r : ShownPass) (k n : ℕ) (reply : Reply) → HasAsked from p q k → n ≡ from + max_page * k → Made q r (call (command.Fresh n max_page) reply)
    → Follows (leaves q) (call (command.Fresh n max_page) reply) (leaves r) → HasAsked from p r (k + 1)
asked_on from p q r k n reply h is made follows =
    let one : suc k ≡ k + 1 = omega arith in
    record {
      asked = subst (λ z. AsksTimes z from p r) one (q, h.asked, (reply, subst (λ z. Made q r (call (command.Fresh z max_page) reply)) is made));
      others = h.others ++ follows.0;
      added = follows.2 ∙ (ap (λ (z : List EventValue). z ++ follows.0) h.added ∙ append_assoc (leaves p) h.others follows.0);
    }

pub asks_pages : (from : ℕ) (p q : ShownPass) (k pages : ℕ) → HasAsked from p q k → 1 ≤ k → k ≤ pages → AsksPages pages from p q
asks_pages from p q k pages h some few = (k, some, few, h.asked)

-- ---- the last reply

pub ends_paged : (p q : ShownPass) (c : Command) (events : List EventValue) → Made p q (call c (Paged events)) → EndsPaged q
ends_paged p q c events made =
    (events, (p.mine, c, made.mine ∙ ap (λ (n : List ℕ). p.mine ++ entry n (call c (Paged events)) ∷ []) (sym made.same.number)))

abbrev final : List (Entry Call) → List Reply
final [] = []
final (x ∷ []) = x.call.reply ∷ []
final (x ∷ y ∷ ys) = final (y ∷ ys)

final_is : (xs : List (Entry Call)) (x : Entry Call) → final (xs ++ x ∷ []) ≡ x.call.reply ∷ []
final_is [] x = refl
final_is (y ∷ []) x = refl
final_is (y ∷ z ∷ zs) x = final_is (z ∷ zs) x

final_of : (p : ShownPass) (reply : Reply) → EndsWithReply p reply → final p.mine ≡ reply ∷ []
final_of p reply h = ap final h.2 ∙ final_is h.0 (entry p.number (call h.1 reply))

-- it isn't both
pub not_refused : (p : ShownPass) → EndsPaged p → EndsShort p → ⊥
not_refused p paged refused =
    let e : Paged paged.0 ∷ [] ≡ Refused refused.0 refused.1 ∷ [] = sym (final_of p _ paged.1) ∙ final_of p _ refused.2 in cc

-- the first page
pub first_on : (from : ℕ) (A B next others : List EventValue) → B ≡ A ++ others → next ≡ page (A ++ others) from max_page → next ≡ page B from (max_page * 1)
first_on from A B next others added is = is ∙ ap (λ (z : List EventValue). page z from max_page) (sym added)

-- behind full pages comes the next one
pub page_on : (from k n : ℕ) (A B b next others : List EventValue) → 1 ≤ k → b ≡ page A from (max_page * k) → length b ≡ max_page * k → n ≡ from + length b
    → B ≡ A ++ others → next ≡ page (A ++ others) n max_page → b ++ next ≡ page B from (max_page * (k + 1))
page_on from k n A B b next others some is full at added is_next =
    let counted : length b ≡ min (max_page * k) (length A - from) = ap (λ (z : List EventValue). length z) is ∙ (length-take (max_page * k) (drop from A) ∙ ap (min (max_page * k)) (length-drop from A)) in
    let low : from ≤ length A = omega (arith, counted, full, some) in
    let behind : drop from B ≡ drop from A ++ others = ap (drop from) added ∙ drop-append-le from A others low in
    let long : max_page * k ≤ length (drop from A) = (let e = length-drop from A in omega (arith, e, counted, full, some)) in
    let front : take (max_page * k) (drop from B) ≡ b = ap (take (max_page * k)) behind ∙ (take-append-le (max_page * k) (drop from A) others long ∙ sym is) in
    let rest : drop (max_page * k) (drop from B) ≡ drop n B = drop-drop (max_page * k) from B ∙ ap (λ m. drop m B) (omega (arith, at, full)) in
    let next_is : take max_page (drop n B) ≡ next = sym (is_next ∙ ap (λ (z : List EventValue). page z n max_page) (sym added)) in
    sym (ap (λ m. take m (drop from B)) (omega arith) ∙ (take-add (max_page * k) max_page (drop from B)
    ∙ ((λ i. front i ++ take max_page (rest i)) ∙ ap (λ (z : List EventValue). b ++ z) next_is)))

-- a page that isn't full is the last
pub page_last : (from most more : ℕ) (A b : List EventValue) → b ≡ page A from most → length b < most → most ≤ more → b ≡ page A from more
page_last from most more A b is short le =
    let all : length (drop from A) ≤ most = (let e = ap (λ (z : List EventValue). length z) is ∙ length-take most (drop from A) in omega (arith, e, short)) in
    is ∙ (take_all most (drop from A) all ∙ sym (take_all more (drop from A) (omega (arith, all, le))))

pub first_asked : (from : ℕ) (p q : ShownPass) (reply : Reply) → Made p q (call (command.Fresh from max_page) reply) → Follows (leaves p) (call (command.Fresh from max_page) reply) (leaves q) → HasAsked from p q 1
first_asked from p q reply made follows = asked_on from p p q 0 from reply (none_asked from p) (omega arith) made follows

-- a page has a hundred events at most
pub page_most : (n : ℕ) (B b : List EventValue) → b ≡ page B n max_page → length b ≤ max_page
page_most n B b is = let e = ap (λ (z : List EventValue). length z) is ∙ length-take max_page (drop n B) in omega (arith, e)

pub both_long : (b next both : List EventValue) → both ≡ b ++ next → length both ≡ length b + length next
both_long b next both is = ap (λ (z : List EventValue). length z) is ∙ length-append b next
