-- What a run's peer and feeds come to.
use Rattle.std.proofs.Common.{◌≡◌, ◌≤◌, ℕ, List, [], ◌∷◌, Bool, false, true, arith, length, refl, subst, sym, inl, inr, Option, None, Some, Result, Ok, Err, IfOk}
use Rattle.std.specs.Result.{IfErr}
use Rattle.std.specs.Option.{is_some}
use Rattle.attributes.specs.Event.{EventValue}
use Rattle.command_words.specs.Plans.{AreFew}
use Rattle.event_files.specs.Shelves.{AreContents}
use Rattle.event_files.specs.declared.input.Unread.{Unread}
use Rattle.event_files.specs.declared.shelf.UnreadAt.{UnreadAt}
use Rattle.site_program.specs.Answers.{AnswersRun, RefusesRun}
use Rattle.site_program.specs.Jobs.{AnswersJobs, ArePeers, RefusesJobs, RefusesPeer}
use Rattle.site_commands.specs.Names.{files_of_run}
use Rattle.site_commands.specs.Pieces.{IsInputRefused}
use Rattle.site_commands.specs.declared.line.Refusal.{Refusal}
use Rattle.site_commands.specs.declared.line.Refusal.TheVariants as refusal

-- ---- the peer's content

pub with_peer : (has_lines : Bool) (contents rest : List (List ℕ)) (content : List ℕ) (peers : List (List EventValue)) → contents ≡ content ∷ rest → ArePeers true has_lines (content ∷ []) peers → ArePeers true has_lines contents peers
with_peer has_lines contents rest content peers is h = subst (λ (l : List (List ℕ)). ArePeers true has_lines l peers) (sym is) h

pub peer_refused : (has_lines : Bool) (contents rest : List (List ℕ)) (content : List ℕ) (why : Refusal) → contents ≡ content ∷ rest → IsInputRefused has_lines (content ∷ []) why → RefusesPeer true has_lines contents why
peer_refused has_lines contents rest content why is h = subst (λ (l : List (List ℕ)). RefusesPeer true has_lines l why) (sym is) h

-- ---- the run

pub answers_run : (C : List ℕ → List ℕ → Type 0) (peer : Option (List ℕ)) (files contents : List (List ℕ)) (has_lines flag : Bool) (r : Result (List ℕ) Refusal) → is_some peer ≡ flag
    → AreContents C (files_of_run peer files) contents → IfOk r (AnswersJobs flag has_lines contents) → IfOk r (AnswersRun C peer files has_lines)
answers_run C peer files contents has_lines flag (Ok text) is read h = (contents, read, subst (λ b. AnswersJobs b has_lines contents text) (sym is) h)
answers_run C peer files contents has_lines flag (Err why) is read h = tt

peer_is_read : (has_peer has_lines : Bool) (contents : List (List ℕ)) (at : UnreadAt) → RefusesPeer has_peer has_lines contents (refusal.Unread at) → ⊥
peer_is_read false has_lines contents at h = h
peer_is_read true false contents at h = h
peer_is_read true true contents at h = h

jobs_refuse : (C : List ℕ → List ℕ → Type 0) (U : List ℕ → Unread → Type 0) (peer : Option (List ℕ)) (files contents : List (List ℕ)) (has_lines : Bool) (why : Refusal)
    → AreContents C (files_of_run peer files) contents → RefusesJobs (is_some peer) has_lines contents why → RefusesRun C U peer files has_lines why
jobs_refuse C U peer files contents has_lines (refusal.Unread at) read h = absurd (elim h [ inl own ↦ peer_is_read (is_some peer) has_lines contents at own | inr more ↦ more.2 ])
jobs_refuse C U peer files contents has_lines (refusal.File refused) read h = (contents, read, h)
jobs_refuse C U peer files contents has_lines (refusal.Line refused) read h = (contents, read, h)
jobs_refuse C U peer files contents has_lines (refusal.Summary why) read h = (contents, read, h)
jobs_refuse C U peer files contents has_lines (refusal.Database why) read h = (contents, read, h)
jobs_refuse C U peer files contents has_lines refusal.NoThread read h = (contents, read, h)
jobs_refuse C U peer files contents has_lines (refusal.Lines faults) read h = (contents, read, h)
jobs_refuse C U peer files contents has_lines refusal.NoNumber read h = (contents, read, h)

pub refuses_run : (C : List ℕ → List ℕ → Type 0) (U : List ℕ → Unread → Type 0) (peer : Option (List ℕ)) (files contents : List (List ℕ)) (has_lines flag : Bool) (r : Result (List ℕ) Refusal) → is_some peer ≡ flag
    → AreContents C (files_of_run peer files) contents → IfErr r (RefusesJobs flag has_lines contents) → IfErr r (RefusesRun C U peer files has_lines)
refuses_run C U peer files contents has_lines flag (Ok text) is read h = tt
refuses_run C U peer files contents has_lines flag (Err why) is read h = jobs_refuse C U peer files contents has_lines why read (subst (λ b. RefusesJobs b has_lines contents why) (sym is) h)

contents_length : (C : List ℕ → List ℕ → Type 0) (names contents : List (List ℕ)) → AreContents C names contents → length contents ≡ length names
contents_length C [] [] h = refl
contents_length C [] (b ∷ bs) h = absurd h
contents_length C (n ∷ ns) [] h = absurd h
contents_length C (n ∷ ns) (b ∷ bs) h = omega (arith, contents_length C ns bs h.1)

-- a run has no more contents than workers
pub few_contents : (C : List ℕ → List ℕ → Type 0) (peer : Option (List ℕ)) (files contents : List (List ℕ)) → AreContents C (files_of_run peer files) contents → AreFew (is_some peer) (length files) → length contents ≤ 16
few_contents C None files contents read few = omega (arith, contents_length C files contents read, few)
few_contents C (Some p) files contents read few = omega (arith, contents_length C (p ∷ files) contents read, few)

-- with a peer there is one
pub some_contents : (C : List ℕ → List ℕ → Type 0) (peer : Option (List ℕ)) (files contents : List (List ℕ)) → AreContents C (files_of_run peer files) contents → is_some peer ≡ true → 1 ≤ length contents
some_contents C None files contents read is = absurd (cc)
some_contents C (Some p) files contents read is = omega (arith, contents_length C (p ∷ files) contents read)
