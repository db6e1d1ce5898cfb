use Rattle.std.proofs.Common.{Bool, [], ◌++◌, map, sym, subst}
use Rattle.std.specs.List.{join_with_byte}
use Rattle.std.specs.Prelude.{IsTrue, codes}
use Rattle.serde_json.specs.Written.{compact_text}
use Rattle.attributes.specs.Event.{text}
use Rattle.views.specs.Line.{conflict_line, gap_data, gap_line, kind_data, kind_line, line, string_text}
use Rattle.views.specs.Question.{AreLines}
use Rattle.views.specs.declared.query.Answer.{Answer}
use Rattle.views.proofs.SilentLemmas.{line_some, silent_days, silent_rows}
use Rattle.views.proofs.question.is_silent.Goals as goal

abbrev Tells : Bool → Answer → Type 0
Tells b a = (IsTrue b → AreLines a []) × (AreLines a [] → IsTrue b)

pub returns-in-Shown : goal.returns-in-Shown
returns-in-Shown c = subst (Tells c.is_empty.result) (sym c.in-Shown.is) (silent_rows (λ e. line (text e)) (λ e. line_some (text e)) c.in-Shown.events c.is_empty.ensures)

pub returns-in-Conflicts : goal.returns-in-Conflicts
returns-in-Conflicts c = subst (Tells c.is_empty-in-Conflicts.result) (sym c.in-Conflicts.is) (silent_rows conflict_line (λ x. line_some (codes "{\"events\":[" ++ (join_with_byte 44 (map text x.events) ++ (codes "],\"id\":" ++ (string_text x.id ++ (codes ",\"source\":" ++ (string_text x.source ++ codes "}"))))))) c.in-Conflicts.conflicts c.is_empty-in-Conflicts.ensures)

pub returns-in-Latest : goal.returns-in-Latest
returns-in-Latest c = subst (Tells c.is_empty-in-Latest.result) (sym c.in-Latest.is) (silent_rows (λ e. line (text e)) (λ e. line_some (text e)) c.in-Latest.events c.is_empty-in-Latest.ensures)

pub returns-in-Kinds : goal.returns-in-Kinds
returns-in-Kinds c = subst (Tells c.is_empty-in-Kinds.result) (sym c.in-Kinds.is) (silent_rows kind_line (λ x. line_some (compact_text (kind_data x.0 x.1))) c.in-Kinds.kinds c.is_empty-in-Kinds.ensures)

pub returns-in-Days : goal.returns-in-Days
returns-in-Days c = subst (Tells c.is_empty-in-Days.result) (sym c.in-Days.is) (silent_days c.in-Days.days c.is_empty-in-Days.ensures)

pub returns-in-Gaps : goal.returns-in-Gaps
returns-in-Gaps c = subst (Tells c.is_empty-in-Gaps.result) (sym c.in-Gaps.is) (silent_rows gap_line (λ x. line_some (compact_text (gap_data x))) c.in-Gaps.gaps c.is_empty-in-Gaps.ensures)
