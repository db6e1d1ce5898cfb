-- What a pass shows: how much of the history it has seen, and its own calls in it. The history is
-- one list of calls of the site machine, each under the number of the pass that made it.
use Rattle.std.specs.Prelude.{◌≡◌, ◌⊎◌, ℕ, ◌+◌, List, [], ◌∷◌, ◌++◌, map}
use Rattle.atomic_table.specs.Seated.{TableId}
use Rattle.attributes.specs.Event.{EventValue}
use Rattle.site.specs.Arrival.{AreDistinct, HaveEachNumber}
use Rattle.site.specs.Machine.{HasRightReply, arrivals_after}
use Rattle.site.specs.declared.call.Call.{Call}
use Rattle.turn_lock.specs.declared.machine.Entry.{Entry}
use Rattle.turn_lock.specs.History.{GoesOnBelow, IsLegal, StartsWith, after, entry, made_by}

pub record ShownPass : Type 0 where
  -- which shared site it is of
  pub table : TableId
  -- the number of the pass, and how many passes were split off it
  pub number : List ℕ
  pub splits : ℕ
  -- the arrivals that the site opened with
  pub opening : List EventValue
  -- the beginning of the history that it has seen, and its own calls in it
  pub seen : List (Entry Call)
  pub mine : List (Entry Call)

-- the shared site's history is one of a site used by one thread, which opened with these arrivals
abbrev pub IsHistory : List EventValue → List (Entry Call) → Type 0
IsHistory opening log = IsLegal arrivals_after HasRightReply opening log

-- the arrivals of the shared site after a history
abbrev pub leave : List EventValue → List (Entry Call) → List EventValue
leave opening log = after arrivals_after opening log

-- the arrivals of the shared site after all that the pass has seen
abbrev pub leaves : ShownPass → List EventValue
leaves p = leave p.opening p.seen

-- a pass of the same shared site, number and opening
pub record IsSamePass (p q : ShownPass) : Type 0 where
  pub table : q.table ≡ p.table
  pub number : q.number ≡ p.number
  pub opening : q.opening ≡ p.opening

-- the first pass of a shared site with these arrivals
pub record IsFirstPass (p : ShownPass) (site : TableId) (A : List EventValue) : Type 0 where
  pub table : p.table ≡ site
  pub number : p.number ≡ []
  pub splits : p.splits ≡ 0
  pub opening : p.opening ≡ A
  pub seen : p.seen ≡ []
  pub mine : p.mine ≡ []

-- what the site's pass has seen is legal and has just its own calls under its number; no number
-- there goes on from its own but one that it gave away; the arrivals after it are there once each
pub record IsTruePass (p : ShownPass) : Type 0 where
  pub legal : IsHistory p.opening p.seen
  pub own : made_by p.number p.seen ≡ p.mine
  pub below : GoesOnBelow p.number p.splits p.seen
  pub distinct : AreDistinct (leaves p)

-- from p to q the pass of the shared site made the call c: it has seen entries of others, and then
-- its own; the arrivals after it are events with numbers, each once
pub record Made (p q : ShownPass) (c : Call) : Type 0 where
  pub others : List (Entry Call)
  pub foreign : made_by p.number others ≡ []
  pub seen : q.seen ≡ (p.seen ++ others) ++ entry p.number c ∷ []
  pub mine : q.mine ≡ p.mine ++ entry p.number c ∷ []
  pub splits : q.splits ≡ p.splits
  pub same : IsSamePass p q
  pub legal : IsHistory q.opening q.seen
  pub distinct : AreDistinct (leaves q)
  pub numbered : HaveEachNumber (leaves q)

-- from p to q the pass of the shared site gave a number away, and nothing else changed
pub record Splits (p q : ShownPass) : Type 0 where
  pub seen : q.seen ≡ p.seen
  pub mine : q.mine ≡ p.mine
  pub splits : q.splits ≡ p.splits + 1
  pub same : IsSamePass p q

-- q was split off p, a pass of the shared site: it has seen as much, and made no call
pub record IsSplitOff (p q : ShownPass) : Type 0 where
  pub table : q.table ≡ p.table
  pub number : q.number ≡ p.number ++ p.splits ∷ []
  pub splits : q.splits ≡ 0
  pub opening : q.opening ≡ p.opening
  pub seen : q.seen ≡ p.seen
  pub mine : q.mine ≡ []

-- p met the pass o of the site and became q: one of them has seen what the other has, q the longer
pub record Meets (p o q : ShownPass) : Type 0 where
  pub longer : (q.seen ≡ p.seen) ⊎ (q.seen ≡ o.seen)
  pub all_own : StartsWith q.seen p.seen
  pub all_others : StartsWith q.seen o.seen
  pub mine : q.mine ≡ p.mine
  pub splits : q.splits ≡ p.splits
  pub same : IsSamePass p q

-- the shared site comes out with these arrivals: a legal history leaves them, what the pass has
-- seen and then others' entries; no number in it goes on from its own but one that it gave away
pub record Closes (p : ShownPass) (A : List EventValue) : Type 0 where
  pub others : List (Entry Call)
  pub foreign : made_by p.number others ≡ []
  pub legal : IsHistory p.opening (p.seen ++ others)
  pub below : GoesOnBelow p.number p.splits (p.seen ++ others)
  pub leaves : A ≡ leave p.opening (p.seen ++ others)

-- from p to q the shared site's pass made these calls, and may have seen others' between them
pub record Steps (p q : ShownPass) (calls : List Call) : Type 0 where
  pub seen : StartsWith q.seen p.seen
  pub mine : q.mine ≡ p.mine ++ map (entry p.number) calls
  pub splits : q.splits ≡ p.splits
  pub same : IsSamePass p q
