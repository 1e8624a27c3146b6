-- How deep the cycle of functions goes: each call has fewer tokens left, or comes later in this order.
use Rattle.std.proofs.Common.{◌+◌, ◌*◌, length}
use Rattle.slicc_ast.specs.Prelude.{Form, of}
use Rattle.slicc_reading.proofs.Repeats.{AreRepeated}
use Rattle.slicc_expr.specs.Prelude.{AreElseIfs}
use Rattle.slicc_expr.proofs.Branches.{stmt_parts}
use Rattle.slicc_expr.proofs.blocks.+block.Given as goal

abbrev pub decreases-if_branch : goal.decreases-if_branch
decreases-if_branch l = 8 * length l.tokens.now + 1

abbrev pub decreases-conditional : goal.decreases-conditional
decreases-conditional l = 8 * length l.tokens.now + 2

abbrev pub decreases-else_if : goal.decreases-else_if
decreases-else_if l = 8 * length l.tokens.now + 1

abbrev pub decreases-else_ifs : goal.decreases-else_ifs
decreases-else_ifs l = 8 * length l.tokens.now + 2

abbrev pub decreases-enqueue : goal.decreases-enqueue
decreases-enqueue l = 8 * length l.tokens.now + 1

abbrev pub decreases-last_block : goal.decreases-last_block
decreases-last_block l = 8 * length l.tokens.now + 1

abbrev pub decreases-last_branch : goal.decreases-last_branch
decreases-last_branch l = 8 * length l.tokens.now + 2

abbrev pub decreases-nesting_statement : goal.decreases-nesting_statement
decreases-nesting_statement l = 8 * length l.tokens.now + 3

abbrev pub decreases-other_branches : goal.decreases-other_branches
decreases-other_branches l = 8 * length l.tokens.now + 3

abbrev pub decreases-peek : goal.decreases-peek
decreases-peek l = 8 * length l.tokens.now + 1

abbrev pub decreases-statement : goal.decreases-statement
decreases-statement l = 8 * length l.tokens.now + 4

abbrev pub decreases-statement_block : goal.decreases-statement_block
decreases-statement_block l = 8 * length l.tokens.now

abbrev pub decreases-statements : goal.decreases-statements
decreases-statements l = 8 * length l.tokens.now + 5

abbrev pub invariant-else_ifs-branches : goal.invariant-else_ifs-branches
invariant-else_ifs-branches l = AreElseIfs l.room l.tokens l.others l.left

abbrev pub decreases-else_ifs-branches : goal.decreases-else_ifs-branches
decreases-else_ifs-branches l = length l.left

abbrev pub invariant-statements-more : goal.invariant-statements-more
invariant-statements-more l = AreRepeated stmt_parts l.room (of Form.statement) l.tokens l.tokens l.items l.left

abbrev pub decreases-statements-more : goal.decreases-statements-more
decreases-statements-more l = length l.left
