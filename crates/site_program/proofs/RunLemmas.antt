-- What the status of a run says of its ending.
use Rattle.std.proofs.Common.{◌≡◌, ◌≤◌, ◌<◌, ℕ, Bool, List, inl, inr, arith, refl, sym, ap, subst, ◌∙◌, true, false}
use Rattle.std.specs.Prelude.{IfSome, None, Option, Some, length}
use Rattle.attributes.specs.Sequence.{max_sequence}
use Rattle.std.specs.Option.{is_some}
use Rattle.command_words.specs.Plans.{AreFaulty, AreFew, Blames, IsBase, IsPartWritten}
use Rattle.command_words.specs.declared.fault.Faulty.{Faulty as FaultyWords}
use Rattle.command_words.specs.declared.fault.Faulty.TheVariants as faulty
use Rattle.event_files.specs.declared.input.Unread.{Unread}
use Rattle.site_commands.specs.Endings.{Ends, EndsStream, SaysRefusal, Writes}
use Rattle.site_program.specs.Numbers.{EndsNumbers}
use Rattle.site_commands.specs.Lines.{line_of, made_lines, memory_line}
use Rattle.site_commands.specs.Names.{Names, names_of_follow, of_number, of_plan}
use Rattle.site_commands.specs.Checks.{IsCheckEnding}
use Rattle.site_commands.specs.Parts.{IsCombineEnding}
use Rattle.site_commands.specs.Comes.{ComesTo, IsLine, IsSplitEnding, IsToldBeside}
use Rattle.site_program.specs.Runs.{IsEnding, PrintsAnswer, RunsAlone, RunsBeside, RunsWords, said}
use Rattle.site_program.specs.Answers.{AnswersPlan, IsAllowedOnce, IsAllowedAlone, IsAllowedPlan, RefusesPlan}
use Rattle.site_commands.specs.declared.ending.Ending.{Ending}
use Rattle.site_commands.specs.declared.ending.Ending.TheVariants.{Answer, Told, Pages, Findings, Help, Faulty, Refused, Uncombined, Unsaved, NoMemory}
use Rattle.databases.specs.Pages.{pages_text}
use Rattle.site_commands.specs.declared.line.Refusal.{Refusal}
use Rattle.command_words.specs.declared.request.Alone.{Alone}
use Rattle.command_words.specs.declared.request.Alone.TheVariants as alone
use Rattle.command_words.specs.declared.request.Check.{Check}
use Rattle.command_words.specs.declared.request.Combine.{Combine}
use Rattle.command_words.specs.declared.request.Follow.{Follow}
use Rattle.command_words.specs.declared.request.Number.{Number}
use Rattle.number_lines.specs.Texts.{numbered_text}
use Rattle.command_words.specs.declared.request.Once.{Once}
use Rattle.command_words.specs.declared.request.Once.TheVariants as once
use Rattle.command_words.specs.declared.request.Run.{Run}
use Rattle.command_words.specs.declared.request.Split.{Split}
use Rattle.command_words.specs.declared.request.Plan.{Plan}
use Rattle.command_words.specs.declared.request.Plan.TheVariants as plan
use Rattle.command_words.specs.Plans.{IsPlan}

written_within : (r s : ℕ) (a b : Option (List ℕ)) (text : List ℕ) → s ≤ 2 → Writes r s a b text → r ≤ 2
written_within r s a b text small (inl w) = omega (arith, w.0)
written_within r s a b text small (inr w) = omega (arith, w.0)

-- a write that ends with 1 or with another status than q never ends with q
never_ends : (r s q : ℕ) (a b : Option (List ℕ)) (text : List ℕ) (A : Type 0) → Writes r s a b text → (q ≡ 1 → ⊥) → (q ≡ s → ⊥) → r ≡ q → A
never_ends r s q a b text A (inl w) not_one other done = absurd (other (sym done ∙ w.0))
never_ends r s q a b text A (inr w) not_one other done = absurd (not_one (sym done ∙ w.0))

module _ (C : List ℕ → List ℕ → Type 0) (U : List ℕ → Unread → Type 0) (words : List (List ℕ)) (r : ℕ) (out out' err err' : Option (List ℕ)) where
  pub status_within : (e : Ending) → Ends e r out out' err err' → r ≤ 2
  status_within (Answer text) h = written_within r 0 out out' text (omega arith) h.0
  status_within (Told text made) h = written_within r 0 out out' text (omega arith) h.0
  status_within (Pages events) h = elim h [ inl w ↦ omega (arith, w.0) | inr w ↦ omega (arith, w.0) ]
  status_within (Findings text) h = written_within r 1 out out' text (omega arith) h.0
  status_within (Help text) h = written_within r 2 out out' text (omega arith) h.0
  status_within (Faulty text) h = written_within r 2 err err' text (omega arith) h.0
  status_within (Refused text hint) h = written_within r 1 err err' text (omega arith) h.0
  status_within (Uncombined text hint) h = written_within r 1 err err' text (omega arith) h.0
  status_within (Unsaved text hint) h = written_within r 1 err err' text (omega arith) h.0
  status_within NoMemory h = written_within r 1 err err' memory_line (omega arith) h.0

  pub answer_printed : (e : Ending) → IsEnding C U words e → Ends e r out out' err err' → r ≡ 0 → PrintsAnswer C words out out'
  answer_printed (Answer text) i h done = elim h.0 [ inl w ↦ (text, i, w.1) | inr w ↦ absurd (omega (arith, w.0, done)) ]
  answer_printed (Told text made) i h done = elim h.0 [ inl w ↦ (text, record { plan = i.plan; planned = i.planned; answered = i.answered }, w.1) | inr w ↦ absurd (omega (arith, w.0, done)) ]
  answer_printed (Pages events) i h done = elim h [ inl w ↦ (pages_text events, i, w.1) | inr w ↦ absurd (omega (arith, w.0, done)) ]
  answer_printed (Findings text) i h done = never_ends r 1 0 out out' text _ h.0 (λ e. omega arith) (λ e. omega arith) done
  answer_printed (Help text) i h done = never_ends r 2 0 out out' text _ h.0 (λ e. omega arith) (λ e. omega arith) done
  answer_printed (Faulty text) i h done = never_ends r 2 0 err err' text _ h.0 (λ e. omega arith) (λ e. omega arith) done
  answer_printed (Refused text hint) i h done = never_ends r 1 0 err err' text _ h.0 (λ e. omega arith) (λ e. omega arith) done
  answer_printed (Uncombined text hint) i h done = never_ends r 1 0 err err' text _ h.0 (λ e. omega arith) (λ e. omega arith) done
  answer_printed (Unsaved text hint) i h done = never_ends r 1 0 err err' text _ h.0 (λ e. omega arith) (λ e. omega arith) done
  answer_printed NoMemory i h done = never_ends r 1 0 err err' memory_line _ h.0 (λ e. omega arith) (λ e. omega arith) done

  pub words_faulty : (e : Ending) → IsEnding C U words e → Ends e r out out' err err' → r ≡ 2 → AreFaulty words
  words_faulty (Answer text) i h done = never_ends r 0 2 out out' text _ h.0 (λ e. omega arith) (λ e. omega arith) done
  words_faulty (Told text made) i h done = never_ends r 0 2 out out' text _ h.0 (λ e. omega arith) (λ e. omega arith) done
  words_faulty (Pages events) i h done = elim h [ inl w ↦ absurd (omega (arith, w.0, done)) | inr w ↦ absurd (omega (arith, w.0, done)) ]
  words_faulty (Findings text) i h done = never_ends r 1 2 out out' text _ h.0 (λ e. omega arith) (λ e. omega arith) done
  words_faulty (Help text) i h done = i
  words_faulty (Faulty text) i h done = i
  words_faulty (Refused text hint) i h done = never_ends r 1 2 err err' text _ h.0 (λ e. omega arith) (λ e. omega arith) done
  words_faulty (Uncombined text hint) i h done = never_ends r 1 2 err err' text _ h.0 (λ e. omega arith) (λ e. omega arith) done
  words_faulty (Unsaved text hint) i h done = never_ends r 1 2 err err' text _ h.0 (λ e. omega arith) (λ e. omega arith) done
  words_faulty NoMemory i h done = never_ends r 1 2 err err' memory_line _ h.0 (λ e. omega arith) (λ e. omega arith) done

-- ---- streams

module _ (r : ℕ) (err err' : Option (List ℕ)) where
  said_within : (n : Names) (why : Refusal) → SaysRefusal n why r err err' → r ≤ 2
  said_within n why (inl w) = written_within r 1 err err' (line_of n why) (omega arith) w
  said_within n why (inr w) = written_within r 1 err err' memory_line (omega arith) w

  said_never : (n : Names) (why : Refusal) (q : ℕ) (A : Type 0) → SaysRefusal n why r err err' → (q ≡ 1 → ⊥) → r ≡ q → A
  said_never n why q A (inl w) not_one done = never_ends r 1 q err err' (line_of n why) A w not_one not_one done
  said_never n why q A (inr w) not_one done = never_ends r 1 q err err' memory_line A w not_one not_one done

module _ (C : List ℕ → List ℕ → Type 0) (U : List ℕ → Unread → Type 0) (words : List (List ℕ)) (r : ℕ) (out out' err err' : Option (List ℕ)) where
  number_within : (f : Number) → EndsNumbers C U f r out out' err err' → r ≤ 2
  number_within f (inl w) = omega (arith, w.0)
  number_within f (inr (inl w)) = said_within r w.1 err' (of_number f) w.0 w.3
  number_within f (inr (inr w)) = omega (arith, w.0)

  number_printed : (f : Number) → IsPlan words (plan.Alone (alone.Number f)) → EndsNumbers C U f r out out' err err' → r ≡ 0 → PrintsAnswer C words out out'
  number_printed f p (inl w) done =
      let all = w.1.all in (
        numbered_text all.tells all.answers,
        record {
          plan = plan.Alone (alone.Number f);
          planned = p;
          answered = record { bytes = w.1.bytes; of_file = w.1.of_file; left = all.left; over = all.over; tells = all.tells; answers = all.answers; are = all.are; is = refl; faultless = sym all.faulty };
        },
        all.written,
      )
  number_printed f p (inr (inl w)) done = said_never r w.1 err' (of_number f) w.0 0 _ w.3 (λ e. omega arith) done
  number_printed f p (inr (inr w)) done = absurd (omega (arith, w.0, done))

  number_faulty : (f : Number) → EndsNumbers C U f r out out' err err' → r ≡ 2 → AreFaulty words
  number_faulty f (inl w) done = absurd (omega (arith, w.0, done))
  number_faulty f (inr (inl w)) done = said_never r w.1 err' (of_number f) w.0 2 _ w.3 (λ e. omega arith) done
  number_faulty f (inr (inr w)) done = absurd (omega (arith, w.0, done))

  follow_within : (f : Follow) → EndsStream C U f r out out' err err' → r ≤ 2
  follow_within f (inl w) = omega (arith, w.0)
  follow_within f (inr (inl w)) = said_within r err err' (names_of_follow f) w.0 w.2
  follow_within f (inr (inr w)) = omega (arith, w.0)

  follow_printed : (f : Follow) → IsPlan words (plan.Alone (alone.Follow f)) → EndsStream C U f r out out' err err' → r ≡ 0 → PrintsAnswer C words out out'
  follow_printed f p (inl w) done =
      let all = w.1.tells in (
        all.text,
        record {
          plan = plan.Alone (alone.Follow f);
          planned = p;
          answered = record { bytes = w.1.bytes; of_file = w.1.of_file; left = all.left; over = all.over; tells = all.tells; told = all.told; faultless = sym all.faulty };
        },
        all.written,
      )
  follow_printed f p (inr (inl w)) done = said_never r err err' (names_of_follow f) w.0 0 _ w.2 (λ e. omega arith) done
  follow_printed f p (inr (inr w)) done = absurd (omega (arith, w.0, done))

  follow_faulty : (f : Follow) → EndsStream C U f r out out' err err' → r ≡ 2 → AreFaulty words
  follow_faulty f (inl w) done = absurd (omega (arith, w.0, done))
  follow_faulty f (inr (inl w)) done = said_never r err err' (names_of_follow f) w.0 2 _ w.2 (λ e. omega arith) done
  follow_faulty f (inr (inr w)) done = absurd (omega (arith, w.0, done))

  -- ---- runs

  pub run_within : RunsWords C U words r out out' err err' → r ≤ 2
  run_within (inl w) = status_within C U words r out out' err err' w.ending w.ends
  run_within (inr (inl w)) = follow_within w.lines w.ends
  run_within (inr (inr w)) = number_within w.lines w.ends

  pub run_printed : RunsWords C U words r out out' err err' → r ≡ 0 → PrintsAnswer C words out out'
  run_printed (inl w) done = answer_printed C U words r out out' err err' w.ending w.is_ending w.ends done
  run_printed (inr (inl w)) done = follow_printed w.lines w.planned w.ends done
  run_printed (inr (inr w)) done = number_printed w.lines w.planned w.ends done

  pub run_faulty : RunsWords C U words r out out' err err' → r ≡ 2 → AreFaulty words
  run_faulty (inl w) done = words_faulty C U words r out out' err err' w.ending w.is_ending w.ends done
  run_faulty (inr (inl w)) done = follow_faulty w.lines w.ends done
  run_faulty (inr (inr w)) done = number_faulty w.lines w.ends done

-- the line of a refused plan is its ending
refused_ending : (A : List ℕ → Type 0) (R : Refusal → Type 0) (n : Names) (refusal : Refusal) (e : Ending)
    → R refusal → IsLine n refusal e → ComesTo A R n e
refused_ending A R n refusal (Answer text) r line = absurd line
refused_ending A R n refusal (Told text made) r line = absurd line
refused_ending A R n refusal (Pages events) r line = absurd line
refused_ending A R n refusal (Findings text) r line = absurd line
refused_ending A R n refusal (Help text) r line = absurd line
refused_ending A R n refusal (Faulty text) r line = absurd line
refused_ending A R n refusal (Refused text hint) r line = (refusal, r, line)
refused_ending A R n refusal (Uncombined text hint) r line = absurd line
refused_ending A R n refusal (Unsaved text hint) r line = absurd line
refused_ending A R n refusal NoMemory r line = tt

pub named_ending : (A : List ℕ → Type 0) (R : Refusal → Type 0) (m n : Names) (refusal : Refusal) (e : Ending)
    → m ≡ n → R refusal → IsLine m refusal e → ComesTo A R n e
named_ending A R m n refusal e is r line = subst (λ z. ComesTo A R z e) is (refused_ending A R m refusal e r line)

-- an answer with the lines of what was made for it is the plan's ending
pub told_ending : (A : List ℕ → Type 0) (R : Refusal → Type 0) (n m : Names) (file service : Bool) (text : List ℕ) (e : Ending)
    → m ≡ n → A text → IsToldBeside m.db file service text e → ComesTo A R n e
told_ending A R n m file service text (Answer printed) is a it = subst A (sym it.0) a
told_ending A R n m file service text (Told printed made) is a it = (subst A (sym it.0) a, (file, service, it.1 ∙ ap (λ (z : Names). made_lines file service z.db) is))
told_ending A R n m file service text (Pages events) is a it = absurd it
told_ending A R n m file service text (Findings printed) is a it = absurd it
told_ending A R n m file service text (Help printed) is a it = absurd it
told_ending A R n m file service text (Faulty printed) is a it = absurd it
told_ending A R n m file service text (Refused printed hint) is a it = absurd it
told_ending A R n m file service text (Uncombined printed hint) is a it = absurd it
told_ending A R n m file service text (Unsaved printed hint) is a it = absurd it
told_ending A R n m file service text NoMemory is a it = tt

-- what the plan comes to, its words come to
planned_ending : (C : List ℕ → List ℕ → Type 0) (U : List ℕ → Unread → Type 0) (words : List (List ℕ)) (plan : Plan) (e : Ending)
    → IsPlan words plan → ComesTo (AnswersPlan C plan) (RefusesPlan C U plan) (of_plan plan) e → IsEnding C U words e
planned_ending C U words plan (Answer text) p h = record { plan = plan; planned = p; answered = h }
planned_ending C U words plan (Told text made) p h = record { plan = plan; planned = p; answered = h.0; tells = h.1 }
planned_ending C U words plan (Pages events) p h = record { plan = plan; planned = p; answered = h }
planned_ending C U words plan (Findings text) p h = absurd h
planned_ending C U words plan (Help text) p h = absurd h
planned_ending C U words plan (Faulty text) p h = absurd h
planned_ending C U words plan (Refused text hint) p h = record { plan = plan; planned = p; refusal = h.0; refused = h.1; is_line = h.2 }
planned_ending C U words plan (Uncombined text hint) p h = absurd h
planned_ending C U words plan (Unsaved text hint) p h = absurd h
planned_ending C U words plan NoMemory p h = tt

-- what a check comes to, its words come to
checked_ending : (C : List ℕ → List ℕ → Type 0) (U : List ℕ → Unread → Type 0) (words : List (List ℕ)) (judged : Check) (e : Ending)
    → IsPlan words (plan.Alone (alone.Check judged)) → IsCheckEnding C U judged e → IsEnding C U words e
checked_ending C U words judged (Answer text) p h = record { plan = plan.Alone (alone.Check judged); planned = p; answered = h }
checked_ending C U words judged (Told text made) p h = absurd h
checked_ending C U words judged (Pages events) p h = absurd h
checked_ending C U words judged (Findings text) p h = record { judged = judged; planned = p; found = h }
checked_ending C U words judged (Help text) p h = absurd h
checked_ending C U words judged (Faulty text) p h = absurd h
checked_ending C U words judged (Refused text hint) p h = record { plan = plan.Alone (alone.Check judged); planned = p; refusal = h.0; refused = h.1; is_line = h.2 }
checked_ending C U words judged (Uncombined text hint) p h = absurd h
checked_ending C U words judged (Unsaved text hint) p h = absurd h
checked_ending C U words judged NoMemory p h = tt

-- what answers of parts come to, their words come to
combined_ending : (C : List ℕ → List ℕ → Type 0) (U : List ℕ → Unread → Type 0) (words : List (List ℕ)) (asked : Combine) (e : Ending)
    → IsPlan words (plan.Alone (alone.Combine asked)) → IsCombineEnding C U asked e → IsEnding C U words e
combined_ending C U words asked (Answer text) p h = record { plan = plan.Alone (alone.Combine asked); planned = p; answered = h }
combined_ending C U words asked (Told text made) p h = absurd h
combined_ending C U words asked (Pages events) p h = absurd h
combined_ending C U words asked (Findings text) p h = absurd h
combined_ending C U words asked (Help text) p h = absurd h
combined_ending C U words asked (Faulty text) p h = absurd h
combined_ending C U words asked (Refused text hint) p h = absurd h
combined_ending C U words asked (Uncombined text hint) p h = record { asked = asked; planned = p; refused = h }
combined_ending C U words asked (Unsaved text hint) p h = absurd h
combined_ending C U words asked NoMemory p h = tt

-- what parts that are saved come to, their words come to
split_ending : (C : List ℕ → List ℕ → Type 0) (U : List ℕ → Unread → Type 0) (words : List (List ℕ)) (asked : Split) (e : Ending)
    → IsPlan words (plan.Alone (alone.Split asked)) → IsSplitEnding C U asked None None e → IsEnding C U words e
split_ending C U words asked (Answer text) p (inl h) = record { plan = plan.Alone (alone.Split asked); planned = p; answered = (h.0, h.1, h.2.0) }
split_ending C U words asked (Answer text) p (inr h) = absurd h.0
split_ending C U words asked (Told text made) p (inl h) = absurd h.2
split_ending C U words asked (Told text made) p (inr h) = absurd h.0.0
split_ending C U words asked (Pages events) p (inl h) = absurd h.2
split_ending C U words asked (Pages events) p (inr h) = absurd h.0
split_ending C U words asked (Findings text) p (inl h) = absurd h.2
split_ending C U words asked (Findings text) p (inr h) = absurd h.0
split_ending C U words asked (Help text) p (inl h) = absurd h.2
split_ending C U words asked (Help text) p (inr h) = absurd h.0
split_ending C U words asked (Faulty text) p (inl h) = absurd h.2
split_ending C U words asked (Faulty text) p (inr h) = absurd h.0
split_ending C U words asked (Refused text hint) p (inl h) = absurd h.2
split_ending C U words asked (Refused text hint) p (inr h) =
    record { plan = plan.Alone (alone.Split asked); planned = p; refusal = h.0.0; refused = h.0.1; is_line = h.0.2 }
split_ending C U words asked (Uncombined text hint) p (inl h) = absurd h.2
split_ending C U words asked (Uncombined text hint) p (inr h) = absurd h.0
split_ending C U words asked (Unsaved text hint) p (inl h) =
    record { asked = asked; planned = p; refused = (h.0, h.1, h.2.0, h.2.1, h.2.2) }
split_ending C U words asked (Unsaved text hint) p (inr h) = absurd h.0
split_ending C U words asked NoMemory p h = tt

-- a plan that one thread carried out is what its words come to
pub planned_alone : (C : List ℕ → List ℕ → Type 0) (U : List ℕ → Unread → Type 0) (words : List (List ℕ)) (p : Alone) (r : ℕ) (out out' err err' : Option (List ℕ)) → IsPlan words (plan.Alone p) → RunsAlone C U p r out out' err err' → RunsWords C U words r out out' err err'
planned_alone C U words (alone.Once asked) r out out' err err' planned w = inl (record { ending = w.0; is_ending = planned_ending C U words (plan.Alone (alone.Once asked)) w.0 planned w.1; ends = w.2 })
planned_alone C U words (alone.Follow lines) r out out' err err' planned w = inr (inl (record { lines = lines; planned = planned; ends = w }))
planned_alone C U words (alone.Number lines) r out out' err err' planned w = inr (inr (record { lines = lines; planned = planned; ends = w }))
planned_alone C U words (alone.Check judged) r out out' err err' planned w = inl (record { ending = w.0; is_ending = checked_ending C U words judged w.0 planned w.1; ends = w.2 })
planned_alone C U words (alone.Combine asked) r out out' err err' planned w = inl (record { ending = w.0; is_ending = combined_ending C U words asked w.0 planned w.1; ends = w.2 })
planned_alone C U words (alone.Split asked) r out out' err err' planned w = inl (record { ending = w.0; is_ending = split_ending C U words asked w.0 planned w.1; ends = w.2 })

-- and so is a run
pub planned_run : (C : List ℕ → List ℕ → Type 0) (U : List ℕ → Unread → Type 0) (words : List (List ℕ)) (p : Run) (r : ℕ) (out out' err err' : Option (List ℕ)) → IsPlan words (plan.Run p) → RunsBeside C U p r out out' err err' → RunsWords C U words r out out' err err'
planned_run C U words p r out out' err err' planned w = inl (record { ending = w.0; is_ending = planned_ending C U words (plan.Run p) w.0 planned w.1; ends = w.2 })

faulty_ending : (C : List ℕ → List ℕ → Type 0) (U : List ℕ → Unread → Type 0) (words : List (List ℕ)) (f : FaultyWords) → Blames (AreFaulty words) f → IsEnding C U words (said f)
faulty_ending C U words (faulty.Words text true) b = b
faulty_ending C U words (faulty.Words text false) b = b
faulty_ending C U words faulty.OutOfMemory b = tt

-- so are words that are no plan
pub faulty_run : (C : List ℕ → List ℕ → Type 0) (U : List ℕ → Unread → Type 0) (words : List (List ℕ)) (f : FaultyWords) (e : Ending) (r : ℕ) (out out' err err' : Option (List ℕ)) → Blames (AreFaulty words) f → e ≡ said f → Ends e r out out' err err' → RunsWords C U words r out out' err err'
faulty_run C U words f e r out out' err err' b is ends = inl (record { ending = e; is_ending = subst (IsEnding C U words) (sym is) (faulty_ending C U words f b); ends = ends })

-- a base that the words wrote is one that a service may have
base_low : (text : Option (List ℕ)) (base : Option ℕ) → IsBase text base → IfSome base (λ n. n ≤ max_sequence)
base_low (Some text) (Some n) h = h.high
base_low None None h = tt
base_low (Some text) None h = tt
base_low None (Some n) h = absurd h

-- a part that the words wrote is below their count
part_below : (text : Option (List ℕ)) (count : ℕ) (place : Option ℕ) → IsPartWritten text count place → IfSome place (λ i. i < count)
part_below (Some text) count (Some i) h = h.below
part_below None count None h = tt
part_below (Some text) count None h = tt
part_below None count (Some i) h = absurd h

-- what the words ask for is within what is allowed
once_allowed : (words : List (List ℕ)) (o : Once) → IsPlan words (plan.Alone (alone.Once o)) → IsAllowedOnce o
once_allowed words (once.Ask query db files has_lines) h = tt
once_allowed words (once.Summary db) h = tt
once_allowed words (once.Take db files has_lines) h = tt
once_allowed words (once.Delta db which summary) h = tt
once_allowed words (once.Scrub db which) h = tt
once_allowed words (once.Arrivals db after is_all) h = tt
once_allowed words (once.Service db source is_named base) h = let t = h.1.texts in (t.3.filled, t.3.short, base_low _ base t.4)
once_allowed words (once.Order request) h = let r = h.1.texts in record {
  filled = r.allowed.filled;
  short = r.allowed.short;
  low = r.order.low;
  high = r.order.high;
  at = r.time.short;
}
once_allowed words (once.Relay db after is_all) h = tt
once_allowed words (once.Part count place files has_lines) h = let t = h.1.texts in ((t.0.low, t.0.high), part_below _ count place t.1)

pub alone_allowed : (words : List (List ℕ)) (p : Alone) → IsPlan words (plan.Alone p) → IsAllowedAlone p
alone_allowed words (alone.Once o) h = once_allowed words o h
alone_allowed words (alone.Follow lines) h = tt
alone_allowed words (alone.Check judged) h = tt
alone_allowed words (alone.Number lines) h = tt
alone_allowed words (alone.Combine asked) h = tt
alone_allowed words (alone.Split asked) h = let t = h.1.texts in (t.0.low, t.0.high)

-- and so many files are few
pub run_allowed : (words : List (List ℕ)) (p : Run) → IsPlan words (plan.Run p) → AreFew (is_some p.peer) (length p.files)
run_allowed words p h = h.1.texts.4

-- and what a plan asks for is within what is allowed
pub plan_allowed : (words : List (List ℕ)) (p : Plan) → IsPlan words p → IsAllowedPlan p
plan_allowed words (plan.Alone asked) h = alone_allowed words asked h
plan_allowed words (plan.Run run) h = run_allowed words run h
