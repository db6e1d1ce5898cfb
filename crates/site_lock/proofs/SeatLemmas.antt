-- From turns of a seat to what its pass shows.
use Rattle.std.proofs.Common.{◌≡◌, ℕ, List, [], ◌∷◌, ◌++◌, sym, ap, ◌∙◌, subst}
use Rattle.std.specs.Prelude.{Option, Some}
use Rattle.atomic_table.specs.Seated.{TableId}
use Rattle.attributes.specs.Event.{EventValue}
use Rattle.site.specs.Arrival.{AreDistinct, HaveEachNumber}
use Rattle.site.specs.Machine.{HasRightReply, arrivals_after}
use Rattle.site.specs.declared.call.Call.{Call}
use Rattle.turn_lock.specs.declared.machine.Entry.{Entry}
use Rattle.turn_lock.specs.History.{GoesOnBelow, entry, made_by}
use Rattle.turn_lock.specs.Turn.{Adds, HasTurn, Hears, IsIdle}
use Rattle.turn_lock.specs.Turn as turn
use Rattle.site_lock.specs.Pass.{Closes, IsHistory, IsSplitOff, IsTruePass, Made, Meets, ShownPass, Splits, leave, leaves}
use Rattle.site_lock.specs.Seat.{IsAtRest, MayEnd, Seat, SiteView, arrivals_of, number_of_pass, shown}
use Rattle.site_lock.specs.declared.held.Held.{Held}
use Rattle.site_lock.proofs.ArrivalLemmas.{leave-append, leave_distinct}

pub rests_on : (v : SiteView) (m : Seat) → AreDistinct v.opening → m.0.opening ≡ v.opening → IsIdle arrivals_of arrivals_after HasRightReply m → IsAtRest m
rests_on v m once same idle = record { idle = idle; once = subst AreDistinct (sym same) once }

-- the end of a turn leaves the seat at rest
pub ends : (m m' : Seat) (B : List EventValue) (said : Option Call) → ((c : Call) × (said ≡ Some c) × MayEnd m B c) → AreDistinct m.0.opening → IsIdle arrivals_of arrivals_after HasRightReply m'
    → ((n : List ℕ) (c : Call) → m.0.number ≡ Some n → said ≡ Some c → Adds n c m.0 m'.0) → IsAtRest m'
ends m m' B said may once idle adds = rests_on m.0 m' once ((adds may.2.1.number may.0 may.2.1.named may.1).same.opening) idle

pub still_once : (m m1 : Seat) → IsAtRest m → Hears m.0 m1.0 → AreDistinct m1.0.opening
still_once m m1 rest heard = subst AreDistinct (sym heard.same.opening) rest.once

made : (t t' : TableId) (m m1 m2 : Seat) (c : Call) (said : Option Call) → t' ≡ t → IsAtRest m → Hears m.0 m1.0 → said ≡ Some c
    → ((n : List ℕ) (d : Call) → m1.0.number ≡ Some n → said ≡ Some d → Adds n d m1.0 m2.0) → IsAtRest m2 → HaveEachNumber (leave m2.0.opening m2.0.seen) → Made (shown t m.0) (shown t' m2.0) c
made t t' m m1 m2 c said same rest heard says adds rest' numbered =
    let v : SiteView = m.0 in let n : List ℕ = rest.idle.number in let named = rest.idle.named in let num : n ≡ number_of_pass v.number = ap number_of_pass (sym named) in
    let a : Adds n c m1.0 m2.0 = adds n c (heard.same.number ∙ named) says in record {
      others = heard.others;
      foreign = subst (λ k. made_by k heard.others ≡ []) num (heard.foreign n named);
      seen = a.seen ∙ (λ i. heard.seen i ++ entry (num i) c ∷ []);
      mine = a.mine ∙ (λ i. heard.mine i ++ entry (num i) c ∷ []);
      splits = a.splits ∙ heard.splits;
      same = record { table = same; number = ap number_of_pass (a.same.number ∙ heard.same.number); opening = a.same.opening ∙ heard.same.opening };
      legal = rest'.idle.rests.legal;
      distinct = leave_distinct (m2.0).opening (m2.0).seen rest'.once;
      numbered = numbered;
    }

pub made_from : (t t' : TableId) (p : ShownPass) (m m1 m2 : Seat) (c : Call) (said : Option Call) → shown t m.0 ≡ p → t' ≡ t → IsAtRest m → Hears m.0 m1.0 → said ≡ Some c
    → ((n : List ℕ) (d : Call) → m1.0.number ≡ Some n → said ≡ Some d → Adds n d m1.0 m2.0) → IsAtRest m2 → HaveEachNumber (leave m2.0.opening m2.0.seen) → Made p (shown t' m2.0) c
made_from t t' p m m1 m2 c said is same rest heard says adds rest' numbered = subst (λ (q : ShownPass). Made q (shown t' m2.0) c) is (made t t' m m1 m2 c said same rest heard says adds rest' numbered)

true_of : (t : TableId) (m : Seat) → IsAtRest m → IsTruePass (shown t m.0)
true_of t m rest = let v : SiteView = m.0 in let n : List ℕ = rest.idle.number in let named = rest.idle.named in let num : n ≡ number_of_pass v.number = ap number_of_pass (sym named) in record {
  legal = rest.idle.rests.legal;
  own = subst (λ k. made_by k v.seen ≡ v.mine) num (rest.idle.rests.own n named);
  below = subst (λ k. GoesOnBelow k v.splits v.seen) num (rest.idle.rests.below n named);
  distinct = leave_distinct v.opening v.seen rest.once;
}

pub true_from : (t : TableId) (p : ShownPass) (m : Seat) → shown t m.0 ≡ p → IsAtRest m → IsTruePass p
true_from t p m is rest = subst IsTruePass is (true_of t m rest)

closes : (t : TableId) (m : Seat) (o : Held) → IsAtRest m → turn.Closes arrivals_of arrivals_after HasRightReply m.0 o → Closes (shown t m.0) o.site
closes t m o rest close = let v : SiteView = m.0 in let n : List ℕ = rest.idle.number in let named = rest.idle.named in let num : n ≡ number_of_pass v.number = ap number_of_pass (sym named) in
    let w : SiteView = close.last in let h = close.hears in let all = v.seen ++ h.others in let opening = h.same.opening in record {
      others = h.others;
      foreign = subst (λ k. made_by k h.others ≡ []) num (h.foreign n named);
      legal = subst (λ (z : List EventValue × List (Entry Call)). IsHistory z.0 z.1) (λ i. (opening i, h.seen i)) close.rests.legal;
      below = subst (λ (z : List ℕ × (ℕ × List (Entry Call))). GoesOnBelow z.0 z.1.0 z.1.1) (λ i. (num i, (h.splits i, h.seen i))) (close.rests.below n (h.same.number ∙ named));
      leaves = close.stands ∙ (λ i. leave (opening i) (h.seen i));
    }

pub closes_from : (t : TableId) (p : ShownPass) (m : Seat) (o : Held) → shown t m.0 ≡ p → IsAtRest m → turn.Closes arrivals_of arrivals_after HasRightReply m.0 o → Closes p o.site
closes_from t p m o is rest close = subst (λ (q : ShownPass). Closes q o.site) is (closes t m o rest close)

splits_off : (t t' : TableId) (m : Seat) (w : SiteView) → t' ≡ t → IsAtRest m → turn.IsSplitOff m.0 w → IsSplitOff (shown t m.0) (shown t' w)
splits_off t t' m w same rest off = let v : SiteView = m.0 in let n : List ℕ = rest.idle.number in let named = rest.idle.named in let num : n ≡ number_of_pass v.number = ap number_of_pass (sym named) in record {
  table = same;
  number = ap number_of_pass (off.number n named) ∙ ap (λ (k : List ℕ). k ++ v.splits ∷ []) num;
  splits = off.splits;
  opening = off.opening;
  seen = off.seen;
  mine = off.mine;
}

pub splits_off_from : (t t' : TableId) (p : ShownPass) (m : Seat) (w : SiteView) → shown t m.0 ≡ p → t' ≡ t → IsAtRest m → turn.IsSplitOff m.0 w → IsSplitOff p (shown t' w)
splits_off_from t t' p m w is same rest off = subst (λ (q : ShownPass). IsSplitOff q (shown t' w)) is (splits_off t t' m w same rest off)

pub splits_from : (t t' : TableId) (p : ShownPass) (v w : SiteView) → shown t v ≡ p → t' ≡ t → turn.CountsOne v w → Splits p (shown t' w)
splits_from t t' p v w is same c = subst (λ (q : ShownPass). Splits q (shown t' w)) is record { seen = c.seen; mine = c.mine; splits = c.splits; same = record { table = same; number = ap number_of_pass c.same.number; opening = c.same.opening } }

pub meets_from : (t t' t'' : TableId) (p o : ShownPass) (v u w : SiteView) → shown t v ≡ p → shown t'' u ≡ o → t' ≡ t → turn.Meets v u w → Meets p o (shown t' w)
meets_from t t' t'' p o v u w is is' same c = subst (λ (z : ShownPass × ShownPass). Meets z.0 z.1 (shown t' w)) (λ i. (is i, is' i)) record { longer = c.longer; all_own = c.all_mine; all_others = c.all_others; mine = c.mine; splits = c.splits; same = record { table = same; number = ap number_of_pass c.same.number; opening = c.same.opening } }

-- after the call of its turn a pass shows the arrivals that the site has then
pub shows_site : (t : TableId) (m m' : Seat) (A : List EventValue) (c : Call) (said : Option Call) → HasTurn arrivals_of arrivals_after HasRightReply m A → said ≡ Some c
    → ((n : List ℕ) (d : Call) → m.0.number ≡ Some n → said ≡ Some d → Adds n d m.0 m'.0) → arrivals_after A c ≡ leaves (shown t m'.0)
shows_site t m m' A c said turn says adds =
    let v : SiteView = m.0 in let a : Adds turn.number c m.0 m'.0 = adds turn.number c turn.named says in
    sym ((λ i. leave (a.same.opening i) (a.seen i)) ∙ (leave-append v.opening v.seen (entry turn.number c ∷ []) ∙ ap (λ (z : List EventValue). arrivals_after z c) (sym turn.stands)))

-- the site that goes back has numbers, so the arrivals after the pass's history have them
pub leaves_numbered : (m m' : Seat) (B : List EventValue) (said : Option Call) → HaveEachNumber B → ((c : Call) × (said ≡ Some c) × MayEnd m B c)
    → ((n : List ℕ) (d : Call) → m.0.number ≡ Some n → said ≡ Some d → Adds n d m.0 m'.0) → HaveEachNumber (leave m'.0.opening m'.0.seen)
leaves_numbered m m' B said numbered may adds = let v : SiteView = m.0 in let turn = may.2.1 in let a : Adds turn.number may.0 m.0 m'.0 = adds turn.number may.0 turn.named may.1 in
    subst HaveEachNumber (may.2.2 ∙ sym ((λ i. leave (a.same.opening i) (a.seen i)) ∙ (leave-append v.opening v.seen (entry turn.number may.0 ∷ []) ∙ ap (λ (z : List EventValue). arrivals_after z may.0) (sym turn.stands)))) numbered
