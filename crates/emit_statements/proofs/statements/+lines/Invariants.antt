use Rattle.std.proofs.Common.{drop}
use Rattle.slicc_ast.specs.declared.tree.statement.If.{out-If}
use Rattle.body_meaning.specs.Prelude.{reading}
use Rattle.body_code.specs.Prelude.{all_lines}
use Rattle.emit_statements.specs.Prelude.{ending_of, line_or, others_by, otherwise_by}
use Rattle.emit_statements.proofs.ArmSteps.{ArmsLead}
use Rattle.emit_statements.proofs.LineSteps.{LinesLead}
use Rattle.emit_statements.proofs.statements.+lines.Given as goal

abbrev pub invariant-all_lines-loop-first : goal.invariant-all_lines-loop-first
invariant-all_lines-loop-first l =
    LinesLead (all_lines (reading l.s) l.n (ending_of l.ending) (drop l.first-index l.statements) l.own) l.code
    (all_lines (reading l.s) l.n (ending_of l.ending) l.statements l.initial.own) l.initial.code

abbrev pub invariant-others-loop-k : goal.invariant-others-loop-k
invariant-others-loop-k l =
    let otherwise = otherwise_by (reading l.s) l.n (ending_of l.ending) (out-If l.i).otherwise in
    ArmsLead (line_or (others_by (reading l.s) l.n (ending_of l.ending) otherwise (drop l.k l.arms)) l.own) l.code l.jumps
    (line_or (others_by (reading l.s) l.n (ending_of l.ending) otherwise l.arms) l.initial.own) l.initial.code
