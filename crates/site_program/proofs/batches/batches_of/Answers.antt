use Rattle.std.proofs.Common.{rules, ◌≡◌, ◌+◌, ◌++◌, ◌∷◌, [], List, ℕ, length, refl, subst, sym, append-nil}
use Rattle.site_program.specs.Jobs.{AreBatches, IsBatchOf, IsLineFeedFault}
use Rattle.site_commands.specs.Pieces.{lines_from, lines_of}
use Rattle.site_program.proofs.FeedLemmas.{batches_next, file_fault, file_next, none_left}
use Rattle.site_program.proofs.batches.batches_of.Goals as goal

pub returns-in-Err-clause-err : goal.returns-in-Err-clause-err
returns-in-Err-clause-err c =
    let file = c.loop-bytes.file in
    let left : c.loop-bytes.bytes-iterator.rest.items ≡ c.in-Some.bytes ∷ c.next.new.self.rest.items = search rules in
    file_fault c.args.first file (file + 1) c.in-Some.bytes c.loop-bytes.bytes-iterator.rest.items c.next.new.self.rest.items c.args.contents.items left refl c.in-Err.fault
    (subst (λ (b : List ℕ). IsLineFeedFault (lines_from file 0 (lines_of b)) c.in-Err.fault) c.as_bytes.ensures.value c.in-Err.ensures.err)
    c.loop-bytes.invariant.first

pub loop-bytes-preserved : goal.loop-bytes-preserved
loop-bytes-preserved c =
    let file = c.loop-bytes.file in
    let left : c.loop-bytes.bytes-iterator.rest.items ≡ c.in-Some.bytes ∷ c.next.new.self.rest.items = search rules in
    let made : IsBatchOf file c.in-Some.bytes c.in-Ok.batch = subst (λ (b : List ℕ). IsBatchOf file b c.in-Ok.batch) c.as_bytes.ensures.value c.in-Ok.ensures.ok in
    let grown : c.push.new.self ≡ c.loop-bytes.batches ++ c.in-Ok.batch ∷ [] = search rules in
    record {
      are = batches_next c.args.first file (file + 1) c.in-Some.bytes c.loop-bytes.bytes-iterator.rest.items c.next.new.self.rest.items c.args.contents.items left refl c.loop-bytes.batches c.push.new.self c.in-Ok.batch made grown c.loop-bytes.invariant.are;
      first = file_next c.args.first file (file + 1) c.in-Some.bytes c.loop-bytes.bytes-iterator.rest.items c.next.new.self.rest.items c.args.contents.items left refl c.in-Ok.batch made c.loop-bytes.invariant.first;
      bound = search rules;
    }

pub returns-clause-ok : goal.returns-clause-ok
returns-clause-ok c =
    let empty : length c.loop-bytes.bytes-iterator.rest.items ≡ 0 = search rules in
    let none : c.loop-bytes.bytes-iterator.rest.items ≡ [] = none_left c.loop-bytes.bytes-iterator.rest.items empty in
    subst (λ (l : List (List ℕ)). AreBatches c.args.first c.args.contents.items l) (append-nil c.loop-bytes.batches)
    (c.loop-bytes.invariant.are [] (subst (λ (l : List (List ℕ)). AreBatches c.loop-bytes.file l []) (sym none) tt))
