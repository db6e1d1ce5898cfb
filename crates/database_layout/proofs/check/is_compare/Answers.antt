use Rattle.std.proofs.Common.{◌≡◌, IsTrue, suc, rules}
use Rattle.std.proofs.Common.{w64}
use Rattle.std.proofs.lemmas.Int.{to_z-of_z}
use Rattle.sqlite_value.specs.declared.value.Value.TheVariants.{Int}
use Rattle.sqlite_value.specs.declared.keys.Collation.TheVariants.{Binary}
use Rattle.sqlite_sql.specs.Term.{lit, col}
use Rattle.sqlite_sql.specs.declared.ops.BinaryOp.TheVariants.{Compare}
use Rattle.database_layout.proofs.TermLemmas.{node_is}
use Rattle.database_layout.proofs.check.is_compare.Goals as goal

pub returns : goal.returns
returns c h depth =
    let it = c.in-Some.node in
    let same : it.op ≡ Compare c.args.op Binary = search rules in
    let left : IsTrue c.is_place.result = search rules in
    node_is c.args.ops.now c.args.at it.left it.right (suc depth) it.op (Compare c.args.op Binary) (col 1 c.args.place) (lit (Int c.args.number)) same (c.in-Some.ensures) (c.is_place.ensures left depth) (rw (to_z-of_z w64 c.args.number c.ranges.number) at (c.is_number.ensures h depth))
