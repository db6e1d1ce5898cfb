-- Arrivals after a history: each there once, and those before it at their front.
use Rattle.std.proofs.Common.{◌≡◌, List, [], ◌∷◌, ◌++◌, Bool, true, false, if◌then◌else◌, refl, sym, ap, ◌∙◌, append_assoc, append-nil}
use Rattle.std.specs.declared.cmp.Ordering.{Ordering}
use Rattle.attributes.specs.Event.{EventValue}
use Rattle.inbox.specs.KeyOrder.{key_cmp}
use Rattle.inbox.specs.Ordered.{append_new, has}
use Rattle.site.specs.Arrival.{AreDistinct}
use Rattle.site.specs.Machine.{arrivals_after, handled_by}
use Rattle.site.specs.declared.call.Call.{Call}
use Rattle.turn_lock.specs.declared.machine.Entry.{Entry}
use Rattle.site_lock.specs.Pass.{leave}

module _ {K : Type 0} (R : K → K → Ordering) where
  append_new-append : (A xs ys : List K) → append_new R A (xs ++ ys) ≡ append_new R (append_new R A xs) ys
  append_new-append A [] ys = refl
  append_new-append A (x ∷ xs) ys = append_new-append (if has R A x then A else A ++ x ∷ []) xs ys

  once_more : (b : Bool) (A : List K) (x : K) → has R A x ≡ b → append_new R [] A ≡ A → append_new R [] (if b then A else A ++ x ∷ []) ≡ (if b then A else A ++ x ∷ [])
  once_more true A x is once = once
  once_more false A x is once = append_new-append [] A (x ∷ []) ∙ ap (λ B. append_new R B (x ∷ [])) once ∙ ap (λ b. if b then A else A ++ x ∷ []) is

  stays_once : (A xs : List K) → append_new R [] A ≡ A → append_new R [] (append_new R A xs) ≡ append_new R A xs
  stays_once A [] once = once
  stays_once A (x ∷ xs) once = stays_once (if has R A x then A else A ++ x ∷ []) xs (once_more (has R A x) A x refl once)

  one_more : (b : Bool) (A : List K) (x : K) → (others : List K) × ((if b then A else A ++ x ∷ []) ≡ A ++ others)
  one_more true A x = ([], sym (append-nil A))
  one_more false A x = (x ∷ [], refl)

  grows : (A xs : List K) → (others : List K) × (append_new R A xs ≡ A ++ others)
  grows A [] = ([], sym (append-nil A))
  grows A (x ∷ xs) = let p = one_more (has R A x) A x in let q = grows (if has R A x then A else A ++ x ∷ []) xs in
      (p.0 ++ q.0, q.1 ∙ (ap (λ (z : List K). z ++ q.0) p.1 ∙ append_assoc A p.0 q.0))

pub leave-append : (A : List EventValue) (xs ys : List (Entry Call)) → leave A (xs ++ ys) ≡ leave (leave A xs) ys
leave-append A [] ys = refl
leave-append A (e ∷ es) ys = leave-append (arrivals_after A e.call) es ys

pub leave_distinct : (A : List EventValue) (log : List (Entry Call)) → AreDistinct A → AreDistinct (leave A log)
leave_distinct A [] once = once
leave_distinct A (e ∷ es) once = leave_distinct (arrivals_after A e.call) es (stays_once key_cmp A (handled_by e.call.command e.call.reply) once)

pub leave_grows : (A : List EventValue) (log : List (Entry Call)) → (others : List EventValue) × (leave A log ≡ A ++ others)
leave_grows A [] = ([], sym (append-nil A))
leave_grows A (e ∷ es) = let p = grows key_cmp A (handled_by e.call.command e.call.reply) in let q = leave_grows (arrivals_after A e.call) es in
    (p.0 ++ q.0, q.1 ∙ (ap (λ (z : List EventValue). z ++ q.0) p.1 ∙ append_assoc A p.0 q.0))
