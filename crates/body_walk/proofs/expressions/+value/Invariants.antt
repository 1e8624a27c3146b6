use Rattle.std.proofs.Common.{[], drop}
use Rattle.body_meaning.specs.Prelude.{calls_within, each, operand_step, suffixed, value_step, reading}
use Rattle.body_walk.proofs.Each.{Leads}
use Rattle.body_walk.proofs.expressions.+value.Given as goal

abbrev pub invariant-operands-loop-o : goal.invariant-operands-loop-o
invariant-operands-loop-o g l =
    Leads (each (operand_step (reading l.s) (calls_within (reading l.s) l.depth) l.frame) l.left (drop l.o-index l.others)) (g.T.Local.view l.local)
    (each (operand_step (reading l.s) (calls_within (reading l.s) l.depth) l.frame) l.initial.left l.others) (g.T.Local.view l.initial.local)

abbrev pub invariant-suffixed_all-loop-suffix : goal.invariant-suffixed_all-loop-suffix
invariant-suffixed_all-loop-suffix g l =
    Leads (each (suffixed (reading l.s) (calls_within (reading l.s) l.depth) l.frame) l.t (drop l.suffix-index l.suffixes)) (g.T.Local.view l.local)
    (each (suffixed (reading l.s) (calls_within (reading l.s) l.depth) l.frame) l.initial.t l.suffixes) (g.T.Local.view l.initial.local)

abbrev pub invariant-values_of-loop-e : goal.invariant-values_of-loop-e
invariant-values_of-loop-e g l =
    Leads (each (value_step (reading l.s) (calls_within (reading l.s) l.depth) l.frame) l.values (drop l.e-index l.arguments)) (g.T.Local.view l.local)
    (each (value_step (reading l.s) (calls_within (reading l.s) l.depth) l.frame) [] l.arguments) (g.T.Local.view l.initial.local)
