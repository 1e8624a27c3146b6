use Rattle.std.proofs.Common.{◌-◌, refl, sym, arith, ◌∷◌, []}
use Rattle.slicc_ast.specs.Prelude.{done, form, sign_kind, arguments, constant, expression, name_end, opening, unary, ◌▸◌, of, optional, parentheses, repeated, level_of}
use Rattle.slicc_ast.specs.Names.{sign}
use Rattle.slicc_ast.specs.declared.tree.token.Sign.TheVariants.{CloseParenthesis, Dot, OpenBracket}
use Rattle.slicc_ast.specs.Form.Form.{suffix}
use Rattle.slicc_ast.specs.Parts.{sign as sign_part}
use Rattle.slicc_reading.specs.Prelude.{no_memory}
use Rattle.slicc_reading.proofs.Parts.{◌then◌, allow, as_node, as_node_behind, as_part, as_tree, at_first, behind, behind_read, in_alternative, match_map, of_alternative, read_behind}
use Rattle.slicc_reading.proofs.Choices.{absent, absent_read, present, present_read, fault_in_present, fault_in_more, in_nesting, fault_in_nesting}
use Rattle.slicc_expr.specs.Prelude.{cast_head}
use Rattle.slicc_expr.proofs.Loops.{args_parts, expr_parts, head_parts, more_items, items_begin, items_more, items_end, no_items, operands_begin, one_level, fault_in_level, all_operands, are_some, fault_in_operand, no_operand, no_operand_yet, no_suffix, one_operand, operands_end, operands_level, operation_read, operator_ahead, postfix_read, some_begin, some_end, some_more, suffix_parts, suffixes_end}
use Rattle.slicc_reading.proofs.GoingOn.{calls, fewer, fewer_still, nests, of_read, of_value, on_fault, weaker}
use Rattle.slicc_reading.proofs.Repeats.{fault_in_one}
use Rattle.slicc_expr.proofs.Ahead.{bracket_ahead, colon_ahead, constant_ahead, invalid_ahead, level_read, fault_in_operators, fault_in_unary, neither_ahead, no_level, open_ahead, opening_ahead, unary_level}
use Rattle.slicc_lex.specs.Prelude.{symbols}
use Rattle.slicc_expr.proofs.expressions.+expression.Goals as goal

pub after_name-returns-in-Ok-clause-read : goal.after_name-returns-in-Ok-clause-read
after_name-returns-in-Ok-clause-read t c =
    match_map c.suffixes.result c.suffixes.ensures.read (λ read is. read_behind c.in-Ok.ensures.read is) (λ fault is. behind_read c.in-Ok.ensures.read is)

pub after_name-returns-in-Err-clause-read : goal.after_name-returns-in-Err-clause-read
after_name-returns-in-Err-clause-read t c =
    at_first (repeated (of suffix)) c.in-Err.ensures.read

pub argument_list-returns-then-not-begins_expression : goal.argument_list-returns-then-not-begins_expression
argument_list-returns-then-not-begins_expression t c =
    no_items c.span-span.result c.new-items.result c.new-items.ensures c.span-span.ensures (sym c.if-not-begins_expression.ensures)

pub argument_list-returns-in-Err : goal.argument_list-returns-in-Err
argument_list-returns-in-Err t c =
    fault_in_present (sym c.if-not-begins_expression.ensures) (in_alternative arguments 0 refl (sym c.if-not-begins_expression.ensures) (at_first (repeated more_items) c.in-Err.ensures.read))

pub argument_list-returns-in-Err-push : goal.argument_list-returns-in-Err-push
argument_list-returns-in-Err-push t c =
    no_memory

pub argument_list-commas-init : goal.argument_list-commas-init
argument_list-commas-init t c =
    items_begin c.in-Ok.first c.new-items.result c.push.new.self c.new-items.ensures c.in-Ok-push.ensures.ok c.in-Ok.ensures.read

pub argument_list-commas-preserved : goal.argument_list-commas-preserved
argument_list-commas-preserved t c =
    let a = c.in-Ok-added.ensures.added in
    items_more c.commas.items a.0 c.added.new.items a.1 (sym c.commas-test.ensures) (of_read _ _ c.next_argument.result c.next_argument.ensures.read a.2) c.commas.invariant

pub argument_list-returns : goal.argument_list-returns
argument_list-returns t c =
    items_end c.span-span-2.result c.commas.items (sym c.if-not-begins_expression.ensures) (sym c.commas-test.ensures) c.span-span-2.ensures c.commas.invariant

pub arguments-returns-in-Err-clause-read : goal.arguments-returns-in-Err-clause-read
arguments-returns-in-Err-clause-read t c =
    c.in-Err.ensures.refused _

pub cast-returns-in-Ok-cast-clause-read : goal.cast-returns-in-Ok-cast-clause-read
cast-returns-in-Ok-cast-clause-read t c =
    as_tree _ c.in-Ok-cast.ensures.spells (as_node c.span.result c.span.ensures
    (c.in-Ok.ensures.called.is_head then in_nesting c.in-Ok.ensures.called.opened c.in-Ok-converted.ensures.read))

pub cast-returns-in-Err-cast-clause-read : goal.cast-returns-in-Err-cast-clause-read
cast-returns-in-Err-cast-clause-read t c =
    no_memory

pub cast-returns-in-Err-converted-clause-read : goal.cast-returns-in-Err-converted-clause-read
cast-returns-in-Err-converted-clause-read t c =
    behind c.in-Ok.ensures.called.is_head (fault_in_nesting c.in-Ok.ensures.called.opened c.in-Err-converted.ensures.read)

pub cast-returns-in-Err-clause-read : goal.cast-returns-in-Err-clause-read
cast-returns-in-Err-clause-read t c =
    c.in-Err.ensures.refused _

pub constant-returns-then-is_word-clause-read : goal.constant-returns-then-is_word-clause-read
constant-returns-then-is_word-clause-read t c =
    match_map c.new_entry.result c.new_entry.ensures.read (λ read is. of_alternative constant 4 refl (sym c.if-is_word.ensures) is) (λ fault is. in_alternative constant 4 refl (sym c.if-is_word.ensures) is)

pub constant-returns-then-is_word-2-clause-read : goal.constant-returns-then-is_word-2-clause-read
constant-returns-then-is_word-2-clause-read t c =
    match_map c.cast.result c.cast.ensures.read (λ read is. of_alternative constant 7 refl (sym c.if-is_word-2.ensures) is) (λ fault is. in_alternative constant 7 refl (sym c.if-is_word-2.ensures) is)

pub constant-returns-then-is_sign-clause-read : goal.constant-returns-then-is_sign-clause-read
constant-returns-then-is_sign-clause-read t c =
    match_map c.group.result c.group.ensures.read (λ read is. of_alternative constant 8 refl (sym c.if-is_sign.ensures) is) (λ fault is. in_alternative constant 8 refl (sym c.if-is_sign.ensures) is)

pub converted-returns-in-Err-clause-read : goal.converted-returns-in-Err-clause-read
converted-returns-in-Err-clause-read t c =
    at_first (of expression ▸ sign_part CloseParenthesis) c.in-Err.ensures.read

pub dotted-returns-in-Err-arguments-clause-read : goal.dotted-returns-in-Err-arguments-clause-read
dotted-returns-in-Err-arguments-clause-read t c =
    behind c.in-Ok.ensures.read (fault_in_present (sym c.if-not-is_sign.ensures) c.in-Err-arguments.ensures.read)

pub dotted-returns-in-Err-clause-read : goal.dotted-returns-in-Err-clause-read
dotted-returns-in-Err-clause-read t c =
    at_first (optional (parentheses (optional (of arguments)))) c.in-Err.ensures.read

pub enclosed-returns-in-Err-clause-read : goal.enclosed-returns-in-Err-clause-read
enclosed-returns-in-Err-clause-read t c =
    c.in-Err.ensures.refused _

pub group-returns-in-Ok-group-clause-read : goal.group-returns-in-Ok-group-clause-read
group-returns-in-Ok-group-clause-read t c =
    as_tree _ c.in-Ok-group.ensures.spells (as_node c.span.result c.span.ensures c.in-Ok.ensures.read)

pub group-returns-in-Err-group-clause-read : goal.group-returns-in-Err-group-clause-read
group-returns-in-Err-group-clause-read t c =
    no_memory

pub level-returns-then-not-begins_expression-clause-read : goal.level-returns-then-not-begins_expression-clause-read
level-returns-then-not-begins_expression-clause-read t c =
    no_level c.args.height (sym c.if-not-begins_expression.ensures) c.refuse.ensures

pub level-returns-in-Ok-clause-read : goal.level-returns-in-Ok-clause-read
level-returns-in-Ok-clause-read t c =
    match_map c.operators.result c.operators.ensures.read (λ read is. level_read c.args.height c.requires (sym c.if-not-begins_expression.ensures) c.in-Ok.ensures.read is) (λ fault is. fault_in_operators c.args.height c.requires (sym c.if-not-begins_expression.ensures) c.in-Ok.ensures.read is)

pub level-returns-in-Err-clause-read : goal.level-returns-in-Err-clause-read
level-returns-in-Err-clause-read t c =
    fault_in_unary c.args.height c.requires (sym c.if-not-begins_expression.ensures) c.in-Err.ensures.read

pub named-returns-then-is_sign-clause-read : goal.named-returns-then-is_sign-clause-read
named-returns-then-is_sign-clause-read t c =
    match_map c.member.result c.member.ensures.read (λ read is. present_read (colon_ahead (symbols c.args.tokens.now) (sym c.if-is_sign.ensures)) (of_alternative name_end 0 refl (sym c.if-is_sign.ensures) is)) (λ fault is. fault_in_present (colon_ahead (symbols c.args.tokens.now) (sym c.if-is_sign.ensures)) (in_alternative name_end 0 refl (sym c.if-is_sign.ensures) is))

pub named-returns-then-not-is_sign-clause-read : goal.named-returns-then-not-is_sign-clause-read
named-returns-then-not-is_sign-clause-read t c =
    absent_read (form name_end done) (neither_ahead (symbols c.args.tokens.now) (sym c.if-is_sign.ensures) (sym c.if-not-is_sign.ensures)) c.requires

pub named-returns-in-Ok-clause-read : goal.named-returns-in-Ok-clause-read
named-returns-in-Ok-clause-read t c =
    present_read (open_ahead (symbols c.args.tokens.now) (sym c.if-not-is_sign.ensures)) (of_alternative name_end 1 refl (sym c.if-not-is_sign.ensures) (as_tree _ c.call.ensures.spells (as_node_behind c.span.result c.span.ensures c.requires c.in-Ok.ensures.read)))

pub named-returns-in-Err-clause-read : goal.named-returns-in-Err-clause-read
named-returns-in-Err-clause-read t c =
    fault_in_present (open_ahead (symbols c.args.tokens.now) (sym c.if-not-is_sign.ensures)) (in_alternative name_end 1 refl (sym c.if-not-is_sign.ensures) c.in-Err.ensures.read)

pub negate-returns-in-Ok-negate-clause-read : goal.negate-returns-in-Ok-negate-clause-read
negate-returns-in-Ok-negate-clause-read t c =
    as_tree _ c.in-Ok-negate.ensures.spells (as_node c.span.result c.span.ensures (allow (unary_level (level_of c.in-Ok-level.operand) c.in-Ok-level.ensures.tight) (in_nesting c.in-Ok.ensures.opened (as_part c.in-Ok-level.ensures.read))))

pub negate-returns-in-Err-negate-clause-read : goal.negate-returns-in-Err-negate-clause-read
negate-returns-in-Err-negate-clause-read t c =
    no_memory

pub negate-returns-in-Err-level-clause-read : goal.negate-returns-in-Err-level-clause-read
negate-returns-in-Err-level-clause-read t c =
    fault_in_nesting c.in-Ok.ensures.opened c.in-Err-level.ensures.read

pub negate-returns-in-Err-clause-read : goal.negate-returns-in-Err-clause-read
negate-returns-in-Err-clause-read t c =
    c.in-Err.ensures.refused _

pub not-returns-in-Ok-not-clause-read : goal.not-returns-in-Ok-not-clause-read
not-returns-in-Ok-not-clause-read t c =
    as_tree _ c.in-Ok-not.ensures.spells (as_node c.span.result c.span.ensures (allow (unary_level (level_of c.in-Ok-level.operand) c.in-Ok-level.ensures.tight) (in_nesting c.in-Ok.ensures.opened (as_part c.in-Ok-level.ensures.read))))

pub not-returns-in-Err-not-clause-read : goal.not-returns-in-Err-not-clause-read
not-returns-in-Err-not-clause-read t c =
    no_memory

pub not-returns-in-Err-level-clause-read : goal.not-returns-in-Err-level-clause-read
not-returns-in-Err-level-clause-read t c =
    fault_in_nesting c.in-Ok.ensures.opened c.in-Err-level.ensures.read

pub not-returns-in-Err-clause-read : goal.not-returns-in-Err-clause-read
not-returns-in-Err-clause-read t c =
    c.in-Err.ensures.refused _

pub next_argument-returns-in-Ok-clause-read : goal.next_argument-returns-in-Ok-clause-read
next_argument-returns-in-Ok-clause-read t c =
    match_map c.level.result c.level.ensures.read (λ read is. c.in-Ok.ensures.read then as_part is) (λ fault is. behind c.in-Ok.ensures.read is)

pub next_argument-returns-in-Err-clause-read : goal.next_argument-returns-in-Err-clause-read
next_argument-returns-in-Err-clause-read t c =
    at_first (of expression) c.in-Err.ensures.read

pub opening-returns-then-is_sign-clause-read : goal.opening-returns-then-is_sign-clause-read
opening-returns-then-is_sign-clause-read t c =
    match_map c.not.result c.not.ensures.read (λ read is. of_alternative opening 0 refl (sym c.if-is_sign.ensures) is) (λ fault is. in_alternative opening 0 refl (sym c.if-is_sign.ensures) is)

pub opening-returns-then-is_sign-2-clause-read : goal.opening-returns-then-is_sign-2-clause-read
opening-returns-then-is_sign-2-clause-read t c =
    match_map c.negate.result c.negate.ensures.read (λ read is. of_alternative opening 1 refl (sym c.if-is_sign-2.ensures) is) (λ fault is. in_alternative opening 1 refl (sym c.if-is_sign-2.ensures) is)

pub opening-returns-in-Ok-clause-read : goal.opening-returns-in-Ok-clause-read
opening-returns-in-Ok-clause-read t c =
    match_map c.suffixes.result c.suffixes.ensures.read (λ read is. of_alternative opening 2 refl (constant_ahead c.args.tokens.now c.requires (sym c.if-is_sign.ensures) (sym c.if-is_sign-2.ensures)) (read_behind c.in-Ok.ensures.read is)) (λ fault is. in_alternative opening 2 refl (constant_ahead c.args.tokens.now c.requires (sym c.if-is_sign.ensures) (sym c.if-is_sign-2.ensures)) (behind_read c.in-Ok.ensures.read is))

pub opening-returns-in-Err-clause-read : goal.opening-returns-in-Err-clause-read
opening-returns-in-Err-clause-read t c =
    in_alternative opening 2 refl (constant_ahead c.args.tokens.now c.requires (sym c.if-is_sign.ensures) (sym c.if-is_sign-2.ensures)) (at_first (repeated (of suffix)) c.in-Err.ensures.read)

pub suffix-returns-then-is_sign-clause-read : goal.suffix-returns-then-is_sign-clause-read
suffix-returns-then-is_sign-clause-read t c =
    match_map c.dotted.result c.dotted.ensures.read (λ read is. of_alternative suffix 0 refl (sym c.if-is_sign.ensures) is) (λ fault is. in_alternative suffix 0 refl (sym c.if-is_sign.ensures) is)

pub tested-returns-in-Err-clause-read : goal.tested-returns-in-Err-clause-read
tested-returns-in-Err-clause-read t c =
    c.in-Err.ensures.refused _

pub unary-returns-then-not-is_name-clause-read : goal.unary-returns-then-not-is_name-clause-read
unary-returns-then-not-is_name-clause-read t c =
    match_map c.opening.result c.opening.ensures.read (λ read is. of_alternative unary 0 refl (opening_ahead c.args.tokens.now c.requires (sym c.if-not-is_name.ensures)) is) (λ fault is. in_alternative unary 0 refl (opening_ahead c.args.tokens.now c.requires (sym c.if-not-is_name.ensures)) is)

pub unary-returns-in-Ok-clause-read : goal.unary-returns-in-Ok-clause-read
unary-returns-in-Ok-clause-read t c =
    match_map c.after_name.result c.after_name.ensures.read (λ read is. of_alternative unary 1 refl (sym c.if-not-is_name.ensures) (read_behind c.in-Ok.ensures.read is)) (λ fault is. in_alternative unary 1 refl (sym c.if-not-is_name.ensures) (behind_read c.in-Ok.ensures.read is))

pub unary-returns-in-Err-clause-read : goal.unary-returns-in-Err-clause-read
unary-returns-in-Err-clause-read t c =
    in_alternative unary 1 refl (sym c.if-not-is_name.ensures) (at_first (optional (of name_end) ▸ repeated (of suffix)) c.in-Err.ensures.read)

pub validity-returns-in-Ok-is_valid-clause-read : goal.validity-returns-in-Ok-is_valid-clause-read
validity-returns-in-Ok-is_valid-clause-read t c =
    of_alternative constant 5 refl (sym c.if-is_word.ensures) (as_tree _ c.in-Ok-is_valid.ensures.spells (as_node c.span.result c.span.ensures c.in-Ok.ensures.read))

pub validity-returns-in-Err-is_valid-clause-read : goal.validity-returns-in-Err-is_valid-clause-read
validity-returns-in-Err-is_valid-clause-read t c =
    no_memory

pub validity-returns-in-Err-clause-read : goal.validity-returns-in-Err-clause-read
validity-returns-in-Err-clause-read t c =
    in_alternative constant 5 refl (sym c.if-is_word.ensures) c.in-Err.ensures.read

pub validity-returns-in-Ok-is_invalid-clause-read : goal.validity-returns-in-Ok-is_invalid-clause-read
validity-returns-in-Ok-is_invalid-clause-read t c =
    of_alternative constant 6 refl (invalid_ahead c.args.tokens.now c.requires (sym c.if-is_word.ensures)) (as_tree _ c.in-Ok-is_invalid.ensures.spells (as_node c.span-in-Ok-tested.result c.span-in-Ok-tested.ensures c.in-Ok-tested.ensures.read))

pub validity-returns-in-Err-is_invalid-clause-read : goal.validity-returns-in-Err-is_invalid-clause-read
validity-returns-in-Err-is_invalid-clause-read t c =
    no_memory

pub validity-returns-in-Err-tested-clause-read : goal.validity-returns-in-Err-tested-clause-read
validity-returns-in-Err-tested-clause-read t c =
    in_alternative constant 6 refl (invalid_ahead c.args.tokens.now c.requires (sym c.if-is_word.ensures)) c.in-Err-tested.ensures.read

pub dotted-returns-then-not-is_sign-clause-read : goal.dotted-returns-then-not-is_sign-clause-read
dotted-returns-then-not-is_sign-clause-read t c =
    as_tree _ c.field.ensures (as_node c.span.result c.span.ensures (c.in-Ok.ensures.read then absent (parentheses (optional (of arguments)) done) (sym c.if-not-is_sign.ensures)))

pub dotted-returns-in-Ok-arguments-clause-read : goal.dotted-returns-in-Ok-arguments-clause-read
dotted-returns-in-Ok-arguments-clause-read t c =
    as_tree _ c.method.ensures (as_node c.span-in-Ok-arguments.result c.span-in-Ok-arguments.ensures (c.in-Ok.ensures.read then present (sym c.if-not-is_sign.ensures) c.in-Ok-arguments.ensures.read))

pub suffix-returns-in-Ok-clause-read : goal.suffix-returns-in-Ok-clause-read
suffix-returns-in-Ok-clause-read t c =
    of_alternative suffix 1 refl (bracket_ahead c.args.tokens.now c.requires (sym c.if-is_sign.ensures)) (as_tree _ c.index.ensures (as_node c.span.result c.span.ensures c.in-Ok.ensures.read))

pub suffix-returns-in-Err-clause-read : goal.suffix-returns-in-Err-clause-read
suffix-returns-in-Err-clause-read t c =
    in_alternative suffix 1 refl (bracket_ahead c.args.tokens.now c.requires (sym c.if-is_sign.ensures)) c.in-Err.ensures.read

pub operands-more-init : goal.operands-more-init
operands-more-init t c =
    no_operand_yet c.args.room c.args.height c.args.tokens.now c.new-items.result c.new-items.ensures

pub operands-more-preserved : goal.operands-more-preserved
operands-more-preserved t c =
    one_operand c.more.items _ c.push.new.self c.in-Ok-push.ensures.ok c.requires.within c.in-Some.ensures.operator c.in-Ok.ensures.read c.in-Ok.ensures.tight c.more.invariant

pub operands-returns-in-Err-push-clause-read : goal.operands-returns-in-Err-push-clause-read
operands-returns-in-Err-push-clause-read t c =
    no_memory

pub operands-returns-in-Err-clause-read : goal.operands-returns-in-Err-clause-read
operands-returns-in-Err-clause-read t c =
    fault_in_operand c.in-Some.ensures.operator c.in-Err.ensures.read c.more.invariant

pub operands-returns-clause-read : goal.operands-returns-clause-read
operands-returns-clause-read t c =
    operands_end c.more.items c.in_default.ensures.operator c.more.invariant

pub operands-returns-clause-level : goal.operands-returns-clause-level
operands-returns-clause-level t c =
    operands_level c.more.items c.requires.begins c.in_default.ensures.operator c.more.invariant

pub operation-returns-in_default-clause-read : goal.operation-returns-in_default-clause-read
operation-returns-in_default-clause-read t c =
    no_operand c.args.height c.args.first c.in_default.ensures.operator c.requires.first

pub operation-operands-requires : goal.operation-operands-requires
operation-operands-requires t c =
    (omega arith, (c.requires.within, operator_ahead _ _ _ _ c.in-Some.ensures.operator))

pub operation-returns-in-Ok-operation-clause-read : goal.operation-returns-in-Ok-operation-clause-read
operation-returns-in-Ok-operation-clause-read t c =
    as_tree _ c.in-Ok-operation.ensures.spells (operation_read c.span.result c.args.first c.in-Ok.others c.requires.within c.span.ensures c.requires.first c.requires.tight c.in-Ok.ensures.level c.in-Ok.ensures.read)

pub operation-returns-in-Err-operation-clause-read : goal.operation-returns-in-Err-operation-clause-read
operation-returns-in-Err-operation-clause-read t c =
    no_memory

pub operators-levels-init : goal.operators-levels-init
operators-levels-init t c =
    operands_begin c.args.room c.args.height c.args.start.now c.args.tokens.now c.args.first c.requires.first c.requires.tight

pub operators-levels-preserved : goal.operators-levels-preserved
operators-levels-preserved t c =
    one_level c.in-Ok.more c.levels-test.true c.in-Ok.ensures.read c.in-Ok.ensures.tight c.levels.invariant

pub operators-returns-in-Err-clause-read : goal.operators-returns-in-Err-clause-read
operators-returns-in-Err-clause-read t c =
    fault_in_level c.levels-test.true c.in-Err.ensures.read c.levels.invariant

pub operators-returns-clause-read : goal.operators-returns-clause-read
operators-returns-clause-read t c =
    all_operands (omega arith) c.levels.invariant

pub suffix_list-more-init : goal.suffix_list-more-init
suffix_list-more-init t c =
    some_begin suffix_parts c.args.room (of suffix) c.args.tokens.now c.new-items.result c.new-items.ensures

pub suffix_list-more-preserved : goal.suffix_list-more-preserved
suffix_list-more-preserved t c =
    let a = c.in-Ok.ensures.added in
    some_more c.more.items a.0 c.added.new.items a.1 (sym c.more-test.ensures) (as_part (of_read _ _ c.suffix.result c.suffix.ensures.read a.2)) c.more.invariant

pub suffix_list-returns-in-Err-clause-read : goal.suffix_list-returns-in-Err-clause-read
suffix_list-returns-in-Err-clause-read t c =
    fault_in_one (sym c.more-test.ensures) (c.in-Err.ensures.refused _ _ _ (on_fault _ _ c.suffix.result c.suffix.ensures.read)) c.more.invariant.read

pub suffix_list-returns-clause-read : goal.suffix_list-returns-clause-read
suffix_list-returns-clause-read t c =
    suffixes_end c.more.items (sym c.more-test.ensures) c.more.invariant

pub suffix_list-returns-clause-some : goal.suffix_list-returns-clause-some
suffix_list-returns-clause-some t c =
    are_some c.more.items (some_end (sign_kind Dot ∷ sign_kind OpenBracket ∷ []) c.more.items c.requires (sym c.more-test.ensures) c.more.invariant)

pub suffixes-returns-then-not-begins_suffix-clause-read : goal.suffixes-returns-then-not-begins_suffix-clause-read
suffixes-returns-then-not-begins_suffix-clause-read t c =
    no_suffix c.args.value (sym c.if-not-begins_suffix.ensures) c.requires.value

pub suffixes-returns-in-Ok-postfix-clause-read : goal.suffixes-returns-in-Ok-postfix-clause-read
suffixes-returns-in-Ok-postfix-clause-read t c =
    as_tree _ c.in-Ok-postfix.ensures.spells (postfix_read c.span.result c.args.value c.in-Ok.suffixes c.span.ensures c.requires.value c.requires.tight c.in-Ok.ensures.some c.in-Ok.ensures.read)

pub suffixes-returns-in-Err-postfix-clause-read : goal.suffixes-returns-in-Err-postfix-clause-read
suffixes-returns-in-Err-postfix-clause-read t c =
    no_memory

pub argument_list-commas-smaller : goal.argument_list-commas-smaller
argument_list-commas-smaller t c =
    of_value _ c.next_argument.result c.next_argument.ensures.shorter c.in-Ok-added.ensures.added.2

pub argument_list-returns-in-Err-added : goal.argument_list-returns-in-Err-added
argument_list-returns-in-Err-added t c =
    fault_in_present (sym c.if-not-begins_expression.ensures) (in_alternative arguments 0 refl (sym c.if-not-begins_expression.ensures)
    (fault_in_more more_items (λ row. row) (sym c.commas-test.ensures) (c.in-Err-added.ensures.refused _ _ _ (on_fault _ _ c.next_argument.result c.next_argument.ensures.read)) c.commas.invariant.leads))

pub arguments-returns-in-Ok : goal.arguments-returns-in-Ok
arguments-returns-in-Ok t c =
    let read = c.ended.ensures.read (optional (of arguments)) args_parts c.in-Ok.inner.now (match_map c.argument_list.result c.argument_list.ensures (λ read is. as_part is) (λ fault is. is)) in
    record {
      read = nests ((optional (of arguments)) ▸ sign_part CloseParenthesis) (λ inside others. args_parts inside (sign CloseParenthesis others)) c.ended.result c.in-Ok.ensures.opened read;
      shorter = fewer (c.args.room - 1) ((optional (of arguments)) ▸ sign_part CloseParenthesis) c.in-Ok.inner.now (λ inside others. args_parts inside (sign CloseParenthesis others)) c.ended.result c.in-Ok.ensures.shorter read;
    }

pub converted-returns-in-Ok : goal.converted-returns-in-Ok
converted-returns-in-Ok t c =
    let read = c.joined.ensures.read c.args.room cast_head (of expression) head_parts expr_parts c.args.tokens.now c.in-Ok.behind.now c.in-Ok.ensures.read
    (match_map c.level.result c.level.ensures.read (λ read is. as_part is) (λ fault is. is)) in
    record {
      read = c.ended.ensures.read (cast_head ▸ of expression) (λ inside others. head_parts inside.0 (expr_parts inside.1 others)) c.args.tokens.now read;
      shorter = c.ended.ensures.shorter _ (weaker _ c.joined.result (c.joined.ensures.shorter _ (fewer_still c.level.result c.in-Ok.ensures.shorter c.level.ensures.shorter)));
    }

pub enclosed-returns-in-Ok : goal.enclosed-returns-in-Ok
enclosed-returns-in-Ok t c =
    let read = c.ended.ensures.read (of expression) expr_parts c.in-Ok.behind.now (match_map c.level.result c.level.ensures.read (λ read is. as_part is) (λ fault is. is)) in
    record {
      read = nests ((of expression) ▸ sign_part c.args.closer) (λ inside others. expr_parts inside (sign c.args.closer others)) c.ended.result c.in-Ok.ensures.opened read;
      shorter = fewer (c.args.room - 1) ((of expression) ▸ sign_part c.args.closer) c.in-Ok.behind.now (λ inside others. expr_parts inside (sign c.args.closer others)) c.ended.result c.in-Ok.ensures.shorter read;
    }

pub tested-returns-in-Ok : goal.tested-returns-in-Ok
tested-returns-in-Ok t c =
    let read = c.ended.ensures.read (of expression) expr_parts c.in-Ok.inside.now (match_map c.level.result c.level.ensures.read (λ read is. as_part is) (λ fault is. is)) in
    record {
      read = calls ((of expression) ▸ sign_part CloseParenthesis) (λ inside others. expr_parts inside (sign CloseParenthesis others)) c.ended.result c.in-Ok.ensures.called read;
      shorter = fewer (c.args.room - 1) ((of expression) ▸ sign_part CloseParenthesis) c.in-Ok.inside.now (λ inside others. expr_parts inside (sign CloseParenthesis others)) c.ended.result c.in-Ok.ensures.shorter read;
    }

pub suffix_list-more-smaller : goal.suffix_list-more-smaller
suffix_list-more-smaller t c =
    of_value _ c.suffix.result c.suffix.ensures.shorter c.in-Ok.ensures.added.2
