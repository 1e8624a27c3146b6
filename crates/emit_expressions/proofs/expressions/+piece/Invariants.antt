use Rattle.std.proofs.Common.{drop}
use Rattle.body_meaning.specs.Prelude.{reading}
use Rattle.body_code.specs.Prelude.{arguments_by, suffixed_by}
use Rattle.emit_expressions.specs.Parts.{operands_by}
use Rattle.emit_expressions.proofs.ArgumentSteps.{Leading}
use Rattle.emit_expressions.proofs.Each.{Leads}
use Rattle.emit_expressions.proofs.expressions.+piece.Given as goal

abbrev pub invariant-operands-loop-o : goal.invariant-operands-loop-o
invariant-operands-loop-o l =
    Leads (operands_by (reading l.s) l.n l.names l.left (drop l.o-index l.others)) l.code
    (operands_by (reading l.s) l.n l.names l.initial.left l.others) l.initial.code

abbrev pub invariant-suffixed_all-loop-suffix : goal.invariant-suffixed_all-loop-suffix
invariant-suffixed_all-loop-suffix l =
    Leads (suffixed_by (reading l.s) l.n l.names l.left (drop l.suffix-index l.suffixes)) l.code
    (suffixed_by (reading l.s) l.n l.names l.initial.left l.suffixes) l.initial.code

abbrev pub invariant-arguments-loop-i : goal.invariant-arguments-loop-i
invariant-arguments-loop-i l =
    Leading (arguments_by (reading l.s) l.n l.names (drop l.i l.kinds) (drop l.i l.given)) l.code
    (arguments_by (reading l.s) l.n l.names l.kinds l.given) l.initial.code
