use Rattle.std.proofs.Common.{◌≡◌, ◌++◌, take}
use Rattle.std.specs.List.{flat_map}
use Rattle.slicc_plan.specs.Prelude.{stmt_parts}
use Rattle.slicc_flow.specs.Prelude.{else_if_parts}
use Rattle.slicc_flow.proofs.statement.+statement_parts.Given as goal

abbrev pub invariant-add_block-loop-statement : goal.invariant-add_block-loop-statement
invariant-add_block-loop-statement l =
    l.parts ≡ l.initial.parts ++ flat_map (stmt_parts l.names) (take l.statement-index l.b.statements)

abbrev pub invariant-add_others-loop-other : goal.invariant-add_others-loop-other
invariant-add_others-loop-other l =
    l.parts ≡ l.initial.parts ++ flat_map (else_if_parts l.names) (take l.other-index l.others)
