-- How deep the cycle of functions goes: each call has fewer tokens left, or comes later in this order.
use Rattle.std.proofs.Common.{◌+◌, ◌*◌, length}
use Rattle.slicc_ast.specs.Names.{balanced_part}
use Rattle.slicc_ast.specs.Prelude.{Form, of}
use Rattle.slicc_reading.proofs.Repeats.{AreRepeated}
use Rattle.slicc_reading.proofs.brackets.+balanced.Given as goal

abbrev pub decreases-balanced : goal.decreases-balanced
decreases-balanced l = 4 * length l.tokens.now + 3

abbrev pub decreases-bracketed : goal.decreases-bracketed
decreases-bracketed l = 4 * length l.tokens.now

abbrev pub decreases-next_part : goal.decreases-next_part
decreases-next_part l = 4 * length l.tokens.now + 2

abbrev pub invariant-balanced-parts : goal.invariant-balanced-parts
invariant-balanced-parts l = AreRepeated balanced_part l.room (of Form.balanced_part) l.tokens l.tokens l.parts l.left

abbrev pub decreases-balanced-parts : goal.decreases-balanced-parts
decreases-balanced-parts l = length l.left
