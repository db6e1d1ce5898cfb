use Rattle.std.proofs.Common.{false, ◌+◌, length, take, slice_range}
use Rattle.event_json.specs.Parts.{part_text}
use Rattle.parallel_reader.specs.Parts.{IsBatchPart}
use Rattle.std.proofs.Common.{IfSome}
use Rattle.parallel_reader.proofs.PartLemmas.{joined_part, of_ok, of_some}
use Rattle.parallel_reader.proofs.part.+levels.Goals as goal

pub returns : goal.returns
returns g t c =
    let b = c.args.bytes.now in
    let at = c.in-Some.at in
    let Left = IsBatchPart (part_text c.args.opened (take at b) false) c.args.is_sorted in
    let Right = IsBatchPart (part_text false (slice_range b (at + 1) (length b)) c.args.closed) c.args.is_sorted in
    let one = of_some Left c.in_ok-events.field-0 c.in-Some-2.events c.in-Some-2.is (of_ok (λ o. IfSome o Left) c.join-first.result.0 c.in_ok-events.field-0 c.in_ok-events.was c.join-first.ensures.first) in
    let two = of_some Right c.in_ok-more.field-0 c.in-Some-3.more c.in-Some-3.is (of_ok (λ o. IfSome o Right) c.join-first.result.1 c.in_ok-more.field-0 c.in_ok-more.was c.join-first.ensures.second) in
    joined_part c.batch_parts_join.ensures.join b c.args.opened c.args.closed at c.args.is_sorted c.in-Some-2.events c.in-Some-3.more c.append.new.events c.in-Some.ensures.2 one two c.in_ok-append.ensures
