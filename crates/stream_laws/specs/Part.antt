-- Streams of pages that are cut short, and that there are such streams.
use Rattle.std.specs.Prelude.{◌≡◌, ◌⊎◌, ℕ, List, [], Option, Some, map, take, true}
use Rattle.attributes.specs.Event.{EventValue}
use Rattle.inbox.specs.KeyOrder.{key_cmp}
use Rattle.inbox.specs.Ordered.{append_new, has}
use Rattle.inbox.specs.Sets.{AreEvents, set_of, union}
use Rattle.block_digests.specs.Lacking.{lacking}
use Rattle.block_digests.specs.Number.{HaveEachNumber}
use Rattle.block_digests.specs.Unite.{Collide}
use Rattle.event_json.specs.BatchText.{batch_text}
use Rattle.line_intake.specs.Follow.{AreKept, AreTurns, IsFollowed, StreamPlace, Turn, faults_of}
use Rattle.line_intake.specs.Judged.{AreJudged, TakesLines}
use Rattle.line_intake.specs.declared.answer.Told.{Told}
use Rattle.databases.specs.Pages.{pages_text}
use Rattle.stream_laws.specs.Stream.{SendsLine, parts}

-- in lines of shell the pages' lines can be taken from their text, to its end, and judged as pages
pub record PagesCome (es : List EventValue) : Type 0 where
  pub taken : TakesLines (Some (pages_text es)) (map batch_text (parts es)) (Some [])
  pub judged : (before : ℕ)
      → (tells : List Told) × AreJudged before (map batch_text (parts es)) tells (parts es)

abbrev pub AllPagesCome : Type 0
AllPagesCome = (es : List EventValue) → AreEvents es → HaveEachNumber es → PagesCome es

-- turns of a `follow` that stop anywhere in the text of the pages keep a front of the events, and
-- no line of theirs is at fault
abbrev pub FrontsAreTaken : Type 0
FrontsAreTaken = (held es events : List EventValue) → AreEvents es → HaveEachNumber es
    → (lines : ℕ) (out : Option (List ℕ)) (turns : List Turn) (last : StreamPlace)
    → AreTurns (record { lines = lines; left = Some (pages_text es); out = out }) turns last
    → AreKept held turns events
    → (n : ℕ) × (events ≡ append_new key_cmp held (take n es)) × (faults_of turns ≡ 0)

-- a line of shell that was cut short in this way, and done again from the start, brings what it would
-- have brought at once
abbrev pub CutsHeal : Type 0
CutsHeal = (A B part new : List EventValue) (n : ℕ) → AreEvents A → AreEvents B → HaveEachNumber A
    → HaveEachNumber B → part ≡ append_new key_cmp A (take n (lacking (set_of B) (set_of A)))
    → SendsLine part B new
    → (set_of new ≡ union (set_of B) (set_of A)) ⊎ Collide (set_of B) (set_of part)

-- `site scrub --db B --all | site follow --db A` leaves the union, whatever the digests are
abbrev pub ScrubsBring : Type 0
ScrubsBring = (A B new : List EventValue) → AreEvents B → HaveEachNumber B
    → (out out' : Option (List ℕ)) (faults : ℕ)
    → IsFollowed (record { lines = 0; left = Some (pages_text (set_of B)); out = out }) out' faults
    (λ turns. AreKept A turns new)
    → (new ≡ append_new key_cmp A (set_of B)) × (set_of new ≡ union (set_of A) (set_of B))
    × (faults ≡ 0)

-- the first database may have taken more between its `summary` and its `follow`, as when lines of
-- shell overlap: held is what it holds by then
abbrev pub OverlapsBring : Type 0
OverlapsBring = (A B held new : List EventValue) → AreEvents A → AreEvents B → AreEvents held
    → HaveEachNumber B → ((e : EventValue) → has key_cmp A e ≡ true → has key_cmp held e ≡ true)
    → (out out' : Option (List ℕ)) (faults : ℕ)
    → IsFollowed (record {
      lines = 0;
      left = Some (pages_text (lacking (set_of B) (set_of A)));
      out = out;
    }) out' faults (λ turns. AreKept held turns new)
    → (set_of new ≡ union (set_of B) (set_of held)) ⊎ Collide (set_of B) (set_of A)
