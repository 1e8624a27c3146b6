use Rattle.std.proofs.Common.{◌≡◌, drop}
use Rattle.slicc_same.specs.Prelude.{all_alike, alike_expr, alike_operand, alike_suffix}
use Rattle.slicc_same.proofs.expression.+expression.Given as goal

abbrev pub invariant-all_same_values-loop-x : goal.invariant-all_same_values-loop-x
invariant-all_same_values-loop-x l = all_alike alike_expr l.a l.b ≡ all_alike alike_expr (drop l.x-index l.a) l.right

abbrev pub invariant-all_same_operands-loop-x : goal.invariant-all_same_operands-loop-x
invariant-all_same_operands-loop-x l = all_alike alike_operand l.a l.b ≡ all_alike alike_operand (drop l.x-index l.a) l.right

abbrev pub invariant-all_same_suffixes-loop-x : goal.invariant-all_same_suffixes-loop-x
invariant-all_same_suffixes-loop-x l = all_alike alike_suffix l.a l.b ≡ all_alike alike_suffix (drop l.x-index l.a) l.right
