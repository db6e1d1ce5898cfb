use Rattle.std.proofs.Common.{◌≡◌, ◌≢◌, [], Some, refl, sym, subst, rules}
use Rattle.event_json.specs.declared.fault.ReadFault.TheVariants.{InputTooLarge}
use Rattle.event_files.specs.declared.refusal.ReportFault.TheVariants.{Read}
use Rattle.line_intake.specs.Judged.{IsJudged}
use Rattle.line_intake.specs.Lines.{IsNext}
use Rattle.line_intake.proofs.GatherLemmas.{gathered_empty, gathered_end, gathered_line, long_judged, on_three}
use Rattle.line_intake.proofs.turn.Gathered.take.Goals as goal

pub returns-then-is_blank-clause-taken : goal.returns-then-is_blank-clause-taken
returns-then-is_blank-clause-taken c before old mid new g next =
    let at = subst (IsNext mid new) c.in-Line.is next in
    let none : c.in-Line.bytes ≡ [] = search rules in
    gathered_empty before c.args.self.now.lines _ old mid new c.args.self.now.tells c.args.self.now.lists c.in-Line.bytes refl none g at.0

pub returns-in-End-clause-taken : goal.returns-in-End-clause-taken
returns-in-End-clause-taken c before old mid new g next =
    let at = subst (IsNext mid new) c.in-End.is next in
    gathered_end before c.args.self.now.lines old mid new c.args.self.now.tells c.args.self.now.lists g at.0

pub returns-in-TooLong-clause-taken : goal.returns-in-TooLong-clause-taken
returns-in-TooLong-clause-taken c =
    on_three c.add.result _ _ _ _
    (λ tells lists lines before old mid new g next.
    let at = subst (IsNext mid new) c.in-TooLong.is next in
    let long = long_judged at.0 at.2 in
    let judged : IsJudged at.0 c.refuse.result.fault c.refuse.result.events =
    subst (λ f. IsJudged at.0 f c.refuse.result.events) (sym c.refuse.ensures.fault) (subst (λ L. IsJudged at.0 (Some (Read InputTooLarge)) L) (sym c.refuse.ensures.events) long.1) in
    gathered_line before c.args.self.now.lines c.add.new.self.lines old mid new c.args.self.now.tells c.add.new.self.tells c.args.self.now.lists c.add.new.self.lists at.0 c.refuse.result.fault c.refuse.result.events
    lines long.0 judged tells lists g at.1)
    c.add.ensures.tells c.add.ensures.lists c.add.ensures.lines

pub returns-in_ok-judge-in-Line-clause-taken : goal.returns-in_ok-judge-in-Line-clause-taken
returns-in_ok-judge-in-Line-clause-taken c =
    let filled : c.in-Line.bytes ≢ [] = search rules in
    on_three c.add-in-Line.result _ _ _ _
    (λ tells lists lines before old mid new g next.
    let at = subst (IsNext mid new) c.in-Line.is next in
    gathered_line before c.args.self.now.lines c.add-in-Line.new.self.lines old mid new c.args.self.now.tells c.add-in-Line.new.self.tells c.args.self.now.lists c.add-in-Line.new.self.lists c.in-Line.bytes
    c.in_ok-judge-in-Line.field-0.fault c.in_ok-judge-in-Line.field-0.events lines filled c.in_ok-judge-in-Line.ensures tells lists g at.0)
    c.add-in-Line.ensures.tells c.add-in-Line.ensures.lists c.add-in-Line.ensures.lines
