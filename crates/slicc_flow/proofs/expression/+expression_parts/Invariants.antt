use Rattle.std.proofs.Common.{◌≡◌, ◌++◌, None, take}
use Rattle.std.specs.List.{flat_map}
use Rattle.std.specs.Option.{option_copied}
use Rattle.slicc_plan.specs.Prelude.{expr_parts}
use Rattle.slicc_flow.specs.Prelude.{operand_parts, suffix_list_parts}
use Rattle.slicc_flow.proofs.expression.+expression_parts.Given as goal

abbrev pub invariant-add_args-loop-item : goal.invariant-add_args-loop-item
invariant-add_args-loop-item l =
    l.parts ≡ l.initial.parts ++ flat_map (expr_parts l.names) (take l.item-index l.a.items)

abbrev pub invariant-add_operands-loop-operand : goal.invariant-add_operands-loop-operand
invariant-add_operands-loop-operand l =
    l.parts ≡ l.initial.parts ++ flat_map (operand_parts l.names) (take l.operand-index l.operands)

abbrev pub invariant-add_suffixes-loop-number : goal.invariant-add_suffixes-loop-number
invariant-add_suffixes-loop-number l =
    l.parts ≡ l.initial.parts ++ suffix_list_parts l.names (option_copied l.receiver) l.place (take l.number l.suffixes)
