use Rattle.std.proofs.Common.{◌≡◌, drop}
use Rattle.slicc_same.specs.Prelude.{all_alike, alike_else_if, alike_stmt}
use Rattle.slicc_same.proofs.statement.+statement.Given as goal

abbrev pub invariant-all_same_statements-loop-x : goal.invariant-all_same_statements-loop-x
invariant-all_same_statements-loop-x l = all_alike alike_stmt l.a l.b ≡ all_alike alike_stmt (drop l.x-index l.a) l.right

abbrev pub invariant-all_same_else_ifs-loop-x : goal.invariant-all_same_else_ifs-loop-x
invariant-all_same_else_ifs-loop-x l = all_alike alike_else_if l.a l.b ≡ all_alike alike_else_if (drop l.x-index l.a) l.right
