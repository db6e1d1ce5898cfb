use Rattle.std.proofs.Common.{◌≡◌, IsTrue, suc, rules, pos}
use Rattle.sqlite_value.specs.declared.value.Value.TheVariants.{Int}
use Rattle.sqlite_value.specs.declared.keys.Collation.TheVariants.{Binary}
use Rattle.sqlite_sql.specs.Term.{lit, col, op2}
use Rattle.sqlite_sql.specs.declared.ops.BinaryOp.TheVariants.{Compare, And}
use Rattle.sqlite_sql.specs.declared.ops.CompareOp.TheVariants.{Ge, Le}
use Rattle.database_layout.proofs.TermLemmas.{node_is}
use Rattle.database_layout.proofs.check.is_status.Goals as goal

pub returns : goal.returns
returns c h depth =
    let it = c.in-Some.node in
    let same : it.op ≡ And = search rules in
    let left : IsTrue c.is_compare.result = search rules in
    node_is c.args.ops.now c.args.at it.left it.right (suc (suc depth)) it.op And (op2 (Compare Ge Binary) (col 1 c.args.place) (lit (Int (pos 1)))) (op2 (Compare Le Binary) (col 1 c.args.place) (lit (Int (pos 3)))) same
    (c.in-Some.ensures) (c.is_compare.ensures left depth) (c.is_compare-2.ensures h depth)
