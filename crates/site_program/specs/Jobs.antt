-- What the files of a run come to: the events of its peer, and what its feeds read.
use Rattle.std.specs.Prelude.{◌≡◌, ◌+◌, ◌⊎◌, Bool, true, false, ℕ, suc, List, [], ◌∷◌, ◌++◌, Ok, Err, Some, drop, take, slice_get}
use Rattle.attributes.specs.Event.{EventValue}
use Rattle.databases.specs.declared.fault.CommandFault.TheVariants as command
use Rattle.event_json.specs.BatchText.{batch_text}
use Rattle.event_json.specs.Reading.{Reads, Refuses}
use Rattle.event_json.specs.declared.fault.ReadFault.{ReadFault}
use Rattle.event_files.specs.Files.{SpellAll}
use Rattle.event_files.specs.declared.refusal.Refused.{Refused}
use Rattle.event_files.specs.declared.refusal.ReportFault.TheVariants as report
use Rattle.run_command.specs.Fault.{IsOfNamed}
use Rattle.run_command.specs.Outcome.{IsOutcome}
use Rattle.run_command.specs.Peer.{peer_of}
use Rattle.run_command.specs.Run.{SaysRun}
use Rattle.run_command.specs.declared.fault.RunFault.TheVariants as run
use Rattle.site_commands.specs.Pieces.{FileLine, IsInputRefused, lines_behind, lines_from, lines_of, pieces_of}
use Rattle.site_program.specs.declared.batches.FeedFault.{FeedFault}
use Rattle.site_program.specs.declared.batches.FeedFault.TheVariants as feed
use Rattle.site_commands.specs.declared.line.Refusal.{Refusal}
use Rattle.site_commands.specs.declared.line.Refusal.TheVariants as refusal
use Rattle.site_commands.specs.declared.pieces.RefusedLine.{RefusedLine}

-- ---- lines as a batch

-- the lines of a file spell these events, one line behind the other
abbrev pub SpellLines : List FileLine → List EventValue → Type 0
SpellLines [] events = events ≡ []
SpellLines (line ∷ lines) events = (own : List EventValue) × (rest : List EventValue)
    × Reads line.bytes own × SpellLines lines rest × (events ≡ own ++ rest)

-- this is the first of a file's lines that spells no events, and why
abbrev pub IsFirstUnreadLine : List FileLine → RefusedLine → Type 0
IsFirstUnreadLine [] refused = ⊥
IsFirstUnreadLine (line ∷ lines) refused =
    ((refused.at ≡ line.at) × (why : ReadFault) × (refused.fault ≡ report.Read why)
    × Refuses line.bytes why)
    ⊎ (((own : List EventValue) × Reads line.bytes own) × IsFirstUnreadLine lines refused)

-- the text is the batch of the events of the lines of this file, which stands at this place
abbrev pub IsBatchOf : ℕ → List ℕ → List ℕ → Type 0
IsBatchOf file bytes text = (events : List EventValue)
    × SpellLines (lines_from file 0 (lines_of bytes)) events × (text ≡ batch_text events)

-- the texts are the batches of a run's files, the first of which stands at this place
abbrev pub AreBatches : ℕ → List (List ℕ) → List (List ℕ) → Type 0
AreBatches first [] [] = Unit {0}
AreBatches first (bytes ∷ contents) (text ∷ texts) =
    IsBatchOf first bytes text × AreBatches (suc first) contents texts
AreBatches first _ _ = ⊥

-- feeds of a run read this of the contents of files, the first of which stands at this place: each
-- as a whole, or the batch of its lines
abbrev pub AreFeeds : Bool → ℕ → List (List ℕ) → List (List ℕ) → Type 0
AreFeeds false first contents feeds = feeds ≡ contents
AreFeeds true first contents feeds = AreBatches first contents feeds

-- memory ran out, or one of the lines of a feed's file spells no events
abbrev pub IsLineFeedFault : List FileLine → FeedFault → Type 0
IsLineFeedFault lines feed.OutOfMemory = Unit {0}
IsLineFeedFault lines (feed.Line refused) = IsFirstUnreadLine lines refused

-- ---- peers and feeds

-- the peers of a run: a site with the events of the first content, where that is a peer's, else none
abbrev pub ArePeers : Bool → Bool → List (List ℕ) → List (List EventValue) → Type 0
ArePeers false has_lines contents peers = peers ≡ []
ArePeers true has_lines contents peers = (events : List EventValue)
    × SpellAll (pieces_of has_lines (take 1 contents)) events × (peers ≡ peer_of events ∷ [])

-- the first content of a run is a peer's, and it is refused, or a line of it
abbrev pub RefusesPeer : Bool → Bool → List (List ℕ) → Refusal → Type 0
RefusesPeer false has_lines contents refusal = ⊥
RefusesPeer true has_lines contents refusal = IsInputRefused has_lines (take 1 contents) refusal

-- the contents of the feeds of a run: all but its peer's
abbrev pub feeds_in : Bool → List (List ℕ) → List (List ℕ)
feeds_in false contents = contents
feeds_in true contents = drop 1 contents

-- the place of the first feed's file of a run
abbrev pub first_feed : Bool → ℕ
first_feed false = 0
first_feed true = 1

-- the answer tells of a run of the feeds of these files' contents, the first of which stands at
-- this place, and each peer brought what it was to bring
abbrev pub AnswersFeeds : Bool → ℕ → List (List ℕ) → List (List EventValue) → List ℕ → Type 0
AnswersFeeds has_lines first contents peers text = (feeds : List (List ℕ))
    × AreFeeds has_lines first contents feeds × IsOutcome feeds peers (Ok text)
    × (arrivals : List EventValue) × SaysRun feeds arrivals text

-- one of these feeds, the first of which is the file at this place, spells no events, and this is
-- why; of the faults of a run beside these peers it is the first, in the order of its workers
pub record RefusesFeed (first : ℕ) (feeds : List (List ℕ)) (peers : List (List EventValue))
    (refused : Refused) : Type 0 where
  pub feed : ℕ
  pub at : refused.file ≡ first + feed
  pub bytes : List ℕ
  pub is_there : slice_get feeds feed ≡ Some bytes
  pub fault : ReadFault
  pub why : refused.fault ≡ report.Read fault
  pub refuses : Refuses bytes fault
  pub told : IsOutcome feeds peers (Err (run.Feed feed fault))

-- a line of these contents of a run's files is the first at fault, and nothing else was done; or
-- else a feed is at fault, the database or a thread
abbrev pub RefusesFeeds : Bool → ℕ → List (List ℕ) → List (List EventValue) → Refusal → Type 0
RefusesFeeds has_lines first contents peers (refusal.Line refused) =
    (has_lines ≡ true) × IsFirstUnreadLine (lines_behind first contents) refused
RefusesFeeds has_lines first contents peers (refusal.File refused) = (feeds : List (List ℕ))
    × AreFeeds has_lines first contents feeds × RefusesFeed first feeds peers refused
RefusesFeeds has_lines first contents peers (refusal.Database why) = IsOfNamed why
    × ((why ≡ command.OutOfMemory)
    ⊎ ((feeds : List (List ℕ)) × AreFeeds has_lines first contents feeds))
RefusesFeeds has_lines first contents peers refusal.NoThread = (feeds : List (List ℕ))
    × AreFeeds has_lines first contents feeds × IsOutcome feeds peers (Err run.NoThread)
RefusesFeeds has_lines first contents peers _ = ⊥

-- ---- jobs

-- the content of a run's peer spells events, and the answer tells of a run of the feeds beside it
abbrev pub AnswersJobs : Bool → Bool → List (List ℕ) → List ℕ → Type 0
AnswersJobs has_peer has_lines contents text = (peers : List (List EventValue))
    × ArePeers has_peer has_lines contents peers
    × AnswersFeeds has_lines (first_feed has_peer) (feeds_in has_peer contents) peers text

-- the content of a run's peer is refused; or, where it spells events, this came of the feeds
abbrev pub RefusesJobs : Bool → Bool → List (List ℕ) → Refusal → Type 0
RefusesJobs has_peer has_lines contents refusal = RefusesPeer has_peer has_lines contents refusal
    ⊎ ((peers : List (List EventValue)) × ArePeers has_peer has_lines contents peers
    × RefusesFeeds has_lines (first_feed has_peer) (feeds_in has_peer contents) peers refusal)
