-- What a worker that asks was answered, one question more at a time.
use Rattle.std.proofs.Common.{◌≡◌, ℕ, ◌+◌, List, [], ◌∷◌, ◌++◌, length, take, drop, sym, refl, ap, ◌∙◌, subst, append_assoc, append-nil, inl, inr, length-append}
use Rattle.std.specs.Prelude.{Option, Some, None, map}
use Rattle.std.proofs.lemmas.List.{take-append-drop}
use Rattle.site.specs.Machine.{call}
use Rattle.site.specs.declared.call.Call.{Call}
use Rattle.site.specs.declared.call.Command.TheVariants as command
use Rattle.site.specs.declared.call.Reply.{Reply}
use Rattle.site.specs.declared.call.Reply.TheVariants.{Answered, Paged, Refused, Summed, Took}
use Rattle.views.specs.declared.query.Answer.{Answer}
use Rattle.views.specs.declared.query.Query.{Query}
use Rattle.feeds.specs.Ask.{Asks, KeepsAnswers, answers_by, answers_of, commands_of}
use Rattle.feeds.specs.Report.{AreAnswered, EndsEarly, HasCause}
use Rattle.feeds.specs.declared.asking.Asked.{Asked}
use Rattle.feeds.specs.declared.report.WorkerEnd.{WorkerEnd}
use Rattle.feeds.specs.declared.report.WorkerEnd.TheVariants.{Done, GateShut, OutOfMemory}
use Rattle.feeds.specs.steps.Ask.{AsksOne, StopsAt}
use Rattle.feeds.proofs.CauseLemmas.{answered-append, cause_behind, one_cause}

commands-append : (m n : List Call) → commands_of (m ++ n) ≡ commands_of m ++ commands_of n
commands-append [] n = refl
commands-append (c ∷ cs) n = ap (λ z. c.command ∷ z) (commands-append cs n)

answers-append : (m n : List Call) → answers_of (m ++ n) ≡ answers_of m ++ answers_of n
answers-append [] n = refl
answers-append (c ∷ cs) n = ap (λ z. answers_by c.reply ++ z) (answers-append cs n) ∙ sym (append_assoc (answers_by c.reply) (answers_of cs) (answers_of n))

asked-append : (L M : List Query) → map command.Query (L ++ M) ≡ map command.Query L ++ map command.Query M
asked-append [] M = refl
asked-append (q ∷ qs) M = ap (λ z. command.Query q ∷ z) (asked-append qs M)

-- the calls so far ask the questions so far, and one more
asks_more : (L : List Query) (m n : List Call) (query : Query) (reply : Reply) → commands_of m ≡ map command.Query L → n ≡ call (command.Query query) reply ∷ []
    → commands_of (m ++ n) ≡ map command.Query (L ++ query ∷ [])
asks_more L m n query reply so_far one = commands-append m n ∙ ap (λ z. commands_of m ++ commands_of z) one ∙ ap (λ z. z ++ command.Query query ∷ []) so_far ∙ sym (asked-append L (query ∷ []))

pub answered_more : (L : List Query) (m n : List Call) (query : Query) (old new : List Answer) (o : Option WorkerEnd) → o ≡ None → commands_of m ≡ map command.Query L → old ≡ answers_of m
    → AsksOne query n old new o → (commands_of (m ++ n) ≡ map command.Query (L ++ query ∷ [])) × (new ≡ answers_of (m ++ n)) × (length new ≡ length old + 1)
answered_more L m n query old new o is so_far kept a = let g = a.goes_on is in (
  asks_more L m n query (Answered g.0) so_far g.1,
  g.2 ∙ ap (λ z. z ++ g.0 ∷ []) kept ∙ sym (answers-append m n ∙ ap (λ z. answers_of m ++ answers_of z) g.1),
  ap length g.2 ∙ length-append old (g.0 ∷ []),
)

-- the call of a question that was answered was not refused
pub answered_on : (m n : List Call) (query : Query) (old new : List Answer) (o : Option WorkerEnd) → o ≡ None → AreAnswered m → AsksOne query n old new o → AreAnswered (m ++ n)
answered_on m n query old new o is so_far a = let g = a.goes_on is in answered-append m n so_far (subst (λ (z : List Call). AreAnswered z) (sym g.1) ((λ r. r), tt))

keeps_last : (m : List Call) (query : Query) (reply : Reply) (answers : List Answer) → answers ≡ answers_of m → KeepsAnswers (m ++ call (command.Query query) reply ∷ []) answers OutOfMemory
keeps_last m query (Answered a) answers is = inr (refl, (a, ap (λ z. z ++ a ∷ []) is ∙ sym (answers-append m (call (command.Query query) (Answered a) ∷ []))))
keeps_last m query (Took f r) answers is = inl (is ∙ sym (answers-append m (call (command.Query query) (Took f r) ∷ []) ∙ append-nil (answers_of m)))
keeps_last m query (Summed s) answers is = inl (is ∙ sym (answers-append m (call (command.Query query) (Summed s) ∷ []) ∙ append-nil (answers_of m)))
keeps_last m query (Paged b) answers is = inl (is ∙ sym (answers-append m (call (command.Query query) (Paged b) ∷ []) ∙ append-nil (answers_of m)))
keeps_last m query (Refused p f) answers is = inl (is ∙ sym (answers-append m (call (command.Query query) (Refused p f) ∷ []) ∙ append-nil (answers_of m)))

stops_asking : (queries L rest : List Query) (query : Query) (m n : List Call) (old new : List Answer) (ended : WorkerEnd) (r : Asked) → L ++ query ∷ rest ≡ queries → commands_of m ≡ map command.Query L → old ≡ answers_of m → AreAnswered m
    → StopsAt query n old new ended → r.answers ≡ new → r.ended ≡ ended → Asks queries (m ++ n) r
stops_asking queries L rest query m n old new ended r split so_far kept well (same, inl (shut, none)) answers ends = record {
  asked = L;
  behind = query ∷ rest;
  split = split;
  calls = ap commands_of (ap (λ z. m ++ z) none ∙ append-nil m) ∙ so_far;
  answers = inl (answers ∙ same ∙ kept ∙ ap answers_of (sym (ap (λ z. m ++ z) none ∙ append-nil m)));
  ended = inr (subst EndsEarly (sym (ends ∙ shut)) tt);
  cause = inl (answered-append m n well (subst (λ (z : List Call). AreAnswered z) (sym none) tt));
  done = λ d. let wrong : GateShut ≡ Done = sym shut ∙ sym ends ∙ d in absurd (cc);
}
stops_asking queries L rest query m n old new ended r split so_far kept well (same, inr (short, one)) answers ends = record {
  asked = L ++ query ∷ [];
  behind = rest;
  split = append_assoc L (query ∷ []) rest ∙ split;
  calls = asks_more L m n query one.0 so_far one.1;
  answers = subst (λ z. KeepsAnswers (m ++ z) r.answers r.ended) (sym one.1) (subst (λ z. KeepsAnswers (m ++ call (command.Query query) one.0 ∷ []) r.answers z) (sym (ends ∙ short)) (keeps_last m query one.0 r.answers (answers ∙ same ∙ kept)));
  ended = inr (subst EndsEarly (sym (ends ∙ short)) tt);
  cause = subst (λ (z : WorkerEnd). HasCause (m ++ n) z) (sym (ends ∙ short)) (cause_behind m n OutOfMemory well (subst (λ (z : List Call). HasCause z OutOfMemory) (sym one.1) (one_cause (command.Query query) one.0)));
  done = λ d. let wrong : OutOfMemory ≡ Done = sym short ∙ sym ends ∙ d in absurd (cc);
}

pub stops_at : (queries : List Query) (place : ℕ) (query : Query) (m n : List Call) (old new : List Answer) (o : Option WorkerEnd) (ended : WorkerEnd) (r : Asked) → take (place + 1) queries ≡ take place queries ++ query ∷ []
    → commands_of m ≡ map command.Query (take place queries) → old ≡ answers_of m → AreAnswered m → AsksOne query n old new o → o ≡ Some ended → r.answers ≡ new → r.ended ≡ ended → Asks queries (m ++ n) r
stops_at queries place query m n old new o ended r next so_far kept well a is answers ends =
    stops_asking queries (take place queries) (drop (place + 1) queries) query m n old new ended r
    (sym (append_assoc (take place queries) (query ∷ []) (drop (place + 1) queries)) ∙ ap (λ z. z ++ drop (place + 1) queries) (sym next) ∙ take-append-drop (place + 1) queries)
    so_far kept well (a.stops ended is) answers ends
