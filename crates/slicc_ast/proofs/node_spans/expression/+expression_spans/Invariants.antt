use Rattle.std.proofs.Common.{◌≡◌, ◌++◌, take}
use Rattle.std.specs.List.{flat_map}
use Rattle.slicc_ast.specs.Prelude.{expr, spans_of, operand_spans, suffix_spans}
use Rattle.slicc_ast.proofs.node_spans.expression.+expression_spans.Given as goal

abbrev pub invariant-add_args-loop-item : goal.invariant-add_args-loop-item
invariant-add_args-loop-item l = l.spans ≡ l.initial.spans ++ flat_map (λ e. spans_of (expr e)) (take l.item-index l.a.items)

abbrev pub invariant-add_operands-loop-operand : goal.invariant-add_operands-loop-operand
invariant-add_operands-loop-operand l = l.spans ≡ l.initial.spans ++ flat_map operand_spans (take l.operand-index l.operands)

abbrev pub invariant-add_suffixes-loop-suffix : goal.invariant-add_suffixes-loop-suffix
invariant-add_suffixes-loop-suffix l = l.spans ≡ l.initial.spans ++ flat_map suffix_spans (take l.suffix-index l.suffixes)
