use Rattle.std.proofs.Common.{ap, ap₂, inl, inr, is_some, ◌∙◌}
use Rattle.coverage.specs.BlockDigests.{HasDigests}
use Rattle.coverage.specs.Digests.{block_digest_at}
use Rattle.coverage.specs.Join.{chosen}
use Rattle.coverage.specs.Summary.{Sources, entries_of, numbers_of}
use Rattle.coverage.proofs.JoinLemmas.{AreJoined, both_joined, joined_has, joined_numbers, joined_told, other_missing, own_missing, wanted}
use Rattle.coverage.proofs.SummaryTextLemmas.{no_blocks}
use Rattle.coverage.proofs.ToldLemmas.{has_digests}
use Rattle.coverage.proofs.summary.Summary.join.Goals.{in-Some-Some+in_ok-join-in-Some-Some, in_default, in_default-via-in-Some+in_default, in_default-via-in_default}
use Rattle.coverage.proofs.summary.Summary.join.Goals as goal

pub returns-in_err-join-in-Some-Some-clause-err : goal.returns-in_err-join-in-Some-Some-clause-err
returns-in_err-join-in-Some-Some-clause-err c =
    wanted c.from_residual-in_err-join-in-Some-Some.result _ (elim c.in_err-join-in-Some-Some.ensures.err [
      | inl some ↦ inl (λ none. some (no_blocks c.self.inside.numbers c.self.inside.digests c.in-Some-Some.own c.self.invariant c.in-Some-Some.is-0 (ap entries_of c.self.view_is ∙ none)))
      | inr some ↦ inr (λ none. some (no_blocks c.other.inside.numbers c.other.inside.digests c.in-Some-Some.others c.other.invariant c.in-Some-Some.is-1 (ap entries_of c.other.view_is ∙ none)))
    ])

are_joined : (c : goal.Joined-self) → AreJoined c.self.inside.digests c.other.inside.digests c.match-self.digests
are_joined c =
    let own = c.self.inside.digests in
    let other = c.other.inside.digests in
    elim c.match-self.branch [
      | in-Some-Some+in_ok-join-in-Some-Some w ↦
          both_joined own other c.match-self.digests w.in-Some-Some.own w.in-Some-Some.others _ w.in-Some-Some.is-0 w.in-Some-Some.is-1 w.digests-is w.in_ok-join-in-Some-Some.ensures.joined w.in_ok-join-in-Some-Some.ensures.order
      | in_default w ↦ elim w.in_default.branch [
        | in_default-via-in-Some+in_default v ↦ other_missing own other c.match-self.digests v.in_default.is-1 w.digests-is
        | in_default-via-in_default v ↦ own_missing own other c.match-self.digests v.in_default.is-0 w.digests-is
      ]
    ]

have_digests : (c : goal.Joined-self) → HasDigests c.in_ok-numbers.numbers c.match-self.digests
have_digests c =
    joined_has c.self.inside.numbers c.other.inside.numbers c.in_ok-numbers.numbers c.in_ok-numbers.ensures.own c.in_ok-numbers.ensures.summary c.in_ok-numbers.ensures.joined
    c.self.inside.digests c.other.inside.digests c.match-self.digests (are_joined c) c.self.invariant c.other.invariant

pub invariant_of-result : goal.invariant_of-result
invariant_of-result c = have_digests c

pub returns-clause-summary : goal.returns-clause-summary
returns-clause-summary c = record { listed = c.in_ok-numbers.ensures.summary; digests = have_digests c }

pub returns-clause-numbers : goal.returns-clause-numbers
returns-clause-numbers c = λ s.
    joined_numbers c.self.inside.numbers c.other.inside.numbers c.in_ok-numbers.numbers c.in_ok-numbers.ensures.own c.in_ok-numbers.ensures.joined s
    ∙ ap₂ (λ a b. chosen (numbers_of a s) (numbers_of a s) (numbers_of b s)) c.self.view_is c.other.view_is

pub returns-clause-digests : goal.returns-clause-digests
returns-clause-digests c = λ one other s k.
    joined_told c.self.inside.numbers c.other.inside.numbers c.in_ok-numbers.numbers c.in_ok-numbers.ensures.own c.in_ok-numbers.ensures.summary c.in_ok-numbers.ensures.joined
    c.self.inside.digests c.other.inside.digests c.match-self.digests (are_joined c) c.self.invariant
    (ap (λ (a : Sources). is_some a.digests) c.self.view_is ∙ has_digests c.args.self.now one)
    (ap (λ (a : Sources). is_some a.digests) c.other.view_is ∙ has_digests c.args.other.now other) s k
    ∙ ap₂ (λ a b. chosen (numbers_of a s) (block_digest_at a s k) (block_digest_at b s k)) c.self.view_is c.other.view_is
