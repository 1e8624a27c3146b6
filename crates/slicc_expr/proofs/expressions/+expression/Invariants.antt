-- How deep the cycle of functions goes: each call has fewer tokens left, or comes later in this order.
use Rattle.std.proofs.Common.{◌+◌, ◌-◌, ◌*◌, length}
use Rattle.slicc_ast.specs.Form.Form.{suffix}
use Rattle.slicc_ast.specs.Prelude.{of}
use Rattle.slicc_expr.proofs.Loops.{AreItems, AreOperands, AreSome, IsOperand, suffix_parts}
use Rattle.slicc_expr.proofs.expressions.+expression.Given as goal

abbrev pub decreases-after_name : goal.decreases-after_name
decreases-after_name l = 16 * length l.tokens.now + 6

abbrev pub decreases-argument_list : goal.decreases-argument_list
decreases-argument_list l = 16 * length l.tokens.now + 9

abbrev pub decreases-arguments : goal.decreases-arguments
decreases-arguments l = 16 * length l.tokens.now + 1

abbrev pub decreases-cast : goal.decreases-cast
decreases-cast l = 16 * length l.tokens.now + 2

abbrev pub decreases-constant : goal.decreases-constant
decreases-constant l = 16 * length l.tokens.now + 4

abbrev pub decreases-converted : goal.decreases-converted
decreases-converted l = 16 * length l.tokens.now + 1

abbrev pub decreases-dotted : goal.decreases-dotted
decreases-dotted l = 16 * length l.tokens.now + 2

abbrev pub decreases-enclosed : goal.decreases-enclosed
decreases-enclosed l = 16 * length l.tokens.now + 1

abbrev pub decreases-group : goal.decreases-group
decreases-group l = 16 * length l.tokens.now + 2

abbrev pub decreases-level : goal.decreases-level
decreases-level l = 16 * length l.tokens.now + 8

abbrev pub decreases-named : goal.decreases-named
decreases-named l = 16 * length l.tokens.now + 5

abbrev pub decreases-negate : goal.decreases-negate
decreases-negate l = 16 * length l.tokens.now + 2

abbrev pub decreases-next_argument : goal.decreases-next_argument
decreases-next_argument l = 16 * length l.tokens.now + 1

abbrev pub decreases-not : goal.decreases-not
decreases-not l = 16 * length l.tokens.now + 2

abbrev pub decreases-opening : goal.decreases-opening
decreases-opening l = 16 * length l.tokens.now + 6

abbrev pub decreases-operators : goal.decreases-operators
decreases-operators l = 16 * length l.tokens.now + 3

abbrev pub decreases-operation : goal.decreases-operation
decreases-operation l = 16 * length l.tokens.now + 2

abbrev pub decreases-operands : goal.decreases-operands
decreases-operands l = 16 * length l.tokens.now + 1

abbrev pub decreases-suffix : goal.decreases-suffix
decreases-suffix l = 16 * length l.tokens.now + 3

abbrev pub decreases-suffixes : goal.decreases-suffixes
decreases-suffixes l = 16 * length l.tokens.now + 5

abbrev pub decreases-suffix_list : goal.decreases-suffix_list
decreases-suffix_list l = 16 * length l.tokens.now + 4

abbrev pub decreases-tested : goal.decreases-tested
decreases-tested l = 16 * length l.tokens.now + 2

abbrev pub decreases-unary : goal.decreases-unary
decreases-unary l = 16 * length l.tokens.now + 7

abbrev pub decreases-validity : goal.decreases-validity
decreases-validity l = 16 * length l.tokens.now + 3

abbrev pub invariant-argument_list-commas : goal.invariant-argument_list-commas
invariant-argument_list-commas l = AreItems l.room l.tokens l.items l.left

abbrev pub decreases-argument_list-commas : goal.decreases-argument_list-commas
decreases-argument_list-commas l = length l.left

abbrev pub invariant-operators-levels : goal.invariant-operators-levels
invariant-operators-levels l = IsOperand l.room l.height l.start l.tokens l.at l.joined l.left

abbrev pub decreases-operators-levels : goal.decreases-operators-levels
decreases-operators-levels l = l.height - l.at

abbrev pub invariant-operands-more : goal.invariant-operands-more
invariant-operands-more l = AreOperands l.room l.height l.tokens l.items l.left

abbrev pub decreases-operands-more : goal.decreases-operands-more
decreases-operands-more l = length l.left

abbrev pub invariant-suffix_list-more : goal.invariant-suffix_list-more
invariant-suffix_list-more l = AreSome suffix_parts l.room (of suffix) l.tokens l.items l.left

abbrev pub decreases-suffix_list-more : goal.decreases-suffix_list-more
decreases-suffix_list-more l = length l.left
