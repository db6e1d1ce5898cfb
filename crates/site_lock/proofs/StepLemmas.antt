-- From a call of a pass to what its caller tells as a desk.
use Rattle.std.proofs.Common.{◌≡◌, List, [], ◌∷◌, ◌++◌, ap, ◌∙◌, subst, append_assoc}
use Rattle.attributes.specs.Event.{EventValue}
use Rattle.site.specs.Machine.{HasRightReply, Follows, arrivals_after}
use Rattle.site.specs.declared.call.Call.{Call}
use Rattle.turn_lock.specs.declared.machine.Entry.{Entry}
use Rattle.turn_lock.specs.History.{entry}
use Rattle.site_lock.specs.Pass.{IsHistory, Made, ShownPass, Steps, leave, leaves}
use Rattle.site_lock.proofs.ArrivalLemmas.{leave-append, leave_grows}

pub made_steps : (p q : ShownPass) (c : Call) → Made p q c → Steps p q (c ∷ [])
made_steps p q c m = record {
  seen = (m.others ++ entry p.number c ∷ [], m.seen ∙ append_assoc p.seen m.others (entry p.number c ∷ []));
  mine = m.mine;
  splits = m.splits;
  same = m.same;
}

-- the last call of a history has its reply where those before it led
last_answers : (A : List EventValue) (log : List (Entry Call)) (e : Entry Call) → IsHistory A (log ++ e ∷ []) → HasRightReply (leave A log) e.call
last_answers A [] e h = h.0
last_answers A (x ∷ xs) e h = last_answers (arrivals_after A x.call) xs e h.1

pub made_follows : (p q : ShownPass) (c : Call) → Made p q c → Follows (leaves p) c (leaves q)
made_follows p q c m = let all : List (Entry Call) = p.seen ++ m.others in let e : Entry Call = entry p.number c in
    let g = leave_grows (leaves p) m.others in
    let opens : leave q.opening all ≡ leaves p ++ g.0 = ap (λ (z : List EventValue). leave z all) m.same.opening ∙ (leave-append p.opening p.seen m.others ∙ g.1) in (
      g.0,
      subst (λ (z : List EventValue). HasRightReply z c) opens (last_answers q.opening all e (subst (IsHistory q.opening) m.seen m.legal)),
      (ap (leave q.opening) m.seen ∙ leave-append q.opening all (e ∷ [])) ∙ ap (λ (z : List EventValue). arrivals_after z c) opens,
      m.distinct,
      m.numbered,
    )
