use Rattle.std.proofs.Common.{◌≡◌, ◌++◌, take}
use Rattle.std.specs.List.{flat_map}
use Rattle.slicc_ast.specs.Prelude.{spans_of, else_if_spans, stmt}
use Rattle.slicc_ast.proofs.node_spans.statement.+statement_spans.Given as goal

abbrev pub invariant-add_block-loop-statement : goal.invariant-add_block-loop-statement
invariant-add_block-loop-statement l = l.spans ≡ l.initial.spans ++ flat_map (λ s. spans_of (stmt s)) (take l.statement-index l.b.statements)

abbrev pub invariant-add_others-loop-other : goal.invariant-add_others-loop-other
invariant-add_others-loop-other l = l.spans ≡ l.initial.spans ++ flat_map else_if_spans (take l.other-index l.others)
