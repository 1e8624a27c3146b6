use Rattle.std.proofs.Common.{◌∙◌, List, None, length, refl, subst, true, false}
use Rattle.ruby_value.specs.declared.kind.Kind.{Kind}
use Rattle.ruby_value.specs.declared.value.Value.TheVariants as value
use Rattle.action_code.specs.declared.instr.Instr.TheVariants as instr
use Rattle.body_meaning.specs.Prelude.{reading}
use Rattle.body_code.specs.declared.left.Left.{Left}
use Rattle.body_code.specs.Prelude.{Piece, arguments_by, formals_of, index, named_call, piece, suffixed, suffixed_by}
use Rattle.emit_expressions.specs.Prelude.{Adds, Writes}
use Rattle.emit_expressions.specs.Parts.{operands_by, operation, strict, unary_made}
use Rattle.emit_expressions.proofs.Adding.{added, adds, code_is, not_added, without_memory, writes_after, writes_then, wrote}
use Rattle.emit_expressions.proofs.ArgumentSteps.{arguments_end, arguments_more}
use Rattle.emit_expressions.proofs.Arms.{call_is, cast_is, group_is, method_writes, operand_is, operation_writes, postfix_writes, strict_is}
use Rattle.emit_expressions.proofs.Each.{leads_ends, leads_more}
use Rattle.emit_expressions.proofs.Joins.{ands, ors}
use Rattle.emit_expressions.proofs.expressions.+piece.Goals as goal

-- Operators.

pub of_operand-returns-in_err-left : goal.of_operand-returns-in_err-left
of_operand-returns-in_err-left t c = without_memory _ _ _ _ _ c.from_residual.ensures.1

pub of_operand-returns : goal.of_operand-returns
of_operand-returns t c =
    writes_then (piece (reading c.args.s) c.args.n.now c.args.names.now None c.args.e.now) (unary_made c.args.unary) c.in_ok-left.left c.unary_made.result _ _ _
    c.in_ok-left.ensures c.unary_made.ensures

pub ored-returns-in_err-jump : goal.ored-returns-in_err-jump
ored-returns-in_err-jump t c = without_memory _ _ _ _ _ c.from_residual.ensures.1

pub ored-returns-in_err-piece : goal.ored-returns-in_err-piece
ored-returns-in_err-piece t c = without_memory _ _ _ _ _ c.from_residual-in_err-piece.ensures.1

pub ored-returns-in_err-set_jump : goal.ored-returns-in_err-set_jump
ored-returns-in_err-set_jump t c = without_memory _ _ _ _ _ c.from_residual-in_err-set_jump.ensures.1

pub ored-returns : goal.ored-returns
ored-returns t c =
    wrote _ _ _ _ refl
    (ors c.args.code.now (piece (reading c.args.s) c.args.n.now c.args.names.now None c.args.e.now).code c.or_between.new.code c.piece.new.code c.set_jump.new.code
    (instr.Push (value.Bool true) 0) c.in_ok-jump.jump c.in_ok-jump.ensures.at c.in_ok-jump.ensures.added
    (code_is _ _ _ _ c.in_ok-piece.ensures) c.in_ok-set_jump.ensures)

pub anded-returns-in_err-unless : goal.anded-returns-in_err-unless
anded-returns-in_err-unless t c = without_memory _ _ _ _ _ c.from_residual.ensures.1

pub anded-returns-in_err-piece : goal.anded-returns-in_err-piece
anded-returns-in_err-piece t c = without_memory _ _ _ _ _ c.from_residual-in_err-piece.ensures.1

pub anded-returns-in_err-and_after : goal.anded-returns-in_err-and_after
anded-returns-in_err-and_after t c = without_memory _ _ _ _ _ c.from_residual-in_err-and_after.ensures.1

pub anded-returns : goal.anded-returns
anded-returns t c =
    wrote _ _ _ _ refl
    (ands c.args.code.now (piece (reading c.args.s) c.args.n.now c.args.names.now None c.args.e.now).code c.hole.new.code c.piece.new.code c.and_after.new.code
    (instr.Push (value.Bool false) 0) c.in_ok-unless.unless c.in_ok-unless.ensures.at c.in_ok-unless.ensures.added
    (code_is _ _ _ _ c.in_ok-piece.ensures) c.in_ok-and_after.ensures)

pub operation-returns-in_err-piece-in_default : goal.operation-returns-in_err-piece-in_default
operation-returns-in_err-piece-in_default t c = without_memory _ _ _ _ _ c.from_residual.ensures.1

pub operation-returns-in_ok-piece-in_default : goal.operation-returns-in_ok-piece-in_default
operation-returns-in_ok-piece-in_default t c =
    let right = (piece (reading c.args.s) c.args.n.now c.args.names.now None c.args.o.now.value).code in
    subst (λ (p : Piece). Writes p c.strict.result c.args.code.now c.strict.new.code)
    (strict_is c.args.o.now.operator right c.in_default.not-Or c.in_default.not-And)
    (writes_after right (strict c.args.o.now.operator) c.strict.result _ _ _ (code_is _ _ _ _ c.in_ok-piece-in_default.ensures) c.strict.ensures)

pub operands-returns-in_err-left : goal.operands-returns-in_err-left
operands-returns-in_err-left t c = without_memory _ _ _ _ _ c.from_residual.ensures.1

pub operands-loop-o-preserved : goal.operands-loop-o-preserved
operands-loop-o-preserved t c =
    leads_more (λ (l : Left). operation (reading c.args.s) c.args.n.now c.args.names.now) (operands_by (reading c.args.s) c.args.n.now c.args.names.now)
    (operands_by (reading c.args.s) c.args.n.now c.args.names.now c.args.first c.args.others.now) c.args.code.now c.args.others.now c.loop-o.o-index
    (λ l x more. refl) c.o-item.result c.loop-o.left c.in_ok-left.left c.loop-o.code c.operation.new.code c.loop-o-test.true c.o-item.is c.in_ok-left.ensures
    c.loop-o.invariant

pub operands-returns : goal.operands-returns
operands-returns t c =
    leads_ends (λ (l : Left). operation (reading c.args.s) c.args.n.now c.args.names.now) (operands_by (reading c.args.s) c.args.n.now c.args.names.now)
    (operands_by (reading c.args.s) c.args.n.now c.args.names.now c.args.first c.args.others.now) c.args.code.now c.args.others.now c.loop-o.o-index
    (λ l. refl) c.loop-o.left c.loop-o.code c.loop-o-test.false c.loop-o.invariant

-- Suffixes and arguments.

pub suffixed_all-returns-in_err-left : goal.suffixed_all-returns-in_err-left
suffixed_all-returns-in_err-left t c = without_memory _ _ _ _ _ c.from_residual.ensures.1

pub suffixed_all-loop-suffix-preserved : goal.suffixed_all-loop-suffix-preserved
suffixed_all-loop-suffix-preserved t c =
    leads_more (suffixed (reading c.args.s) c.args.n.now c.args.names.now) (suffixed_by (reading c.args.s) c.args.n.now c.args.names.now)
    (suffixed_by (reading c.args.s) c.args.n.now c.args.names.now c.args.first c.args.suffixes.now) c.args.code.now c.args.suffixes.now c.loop-suffix.suffix-index
    (λ l x more. refl) c.suffix-item.result c.loop-suffix.left c.in_ok-left.left c.loop-suffix.code c.suffixed.new.code c.loop-suffix-test.true c.suffix-item.is c.in_ok-left.ensures
    c.loop-suffix.invariant

pub suffixed_all-returns : goal.suffixed_all-returns
suffixed_all-returns t c =
    leads_ends (suffixed (reading c.args.s) c.args.n.now c.args.names.now) (suffixed_by (reading c.args.s) c.args.n.now c.args.names.now)
    (suffixed_by (reading c.args.s) c.args.n.now c.args.names.now c.args.first c.args.suffixes.now) c.args.code.now c.args.suffixes.now c.loop-suffix.suffix-index
    (λ l. refl) c.loop-suffix.left c.loop-suffix.code c.loop-suffix-test.false c.loop-suffix.invariant

pub suffixed-returns-in_err-arguments-in-Method : goal.suffixed-returns-in_err-arguments-in-Method
suffixed-returns-in_err-arguments-in-Method t c = without_memory _ _ _ _ _ c.from_residual.ensures.1

pub suffixed-returns-in_ok-arguments-in-Method : goal.suffixed-returns-in_ok-arguments-in-Method
suffixed-returns-in_ok-arguments-in-Method t c =
    method_writes (reading c.args.s) c.args.n.now c.args.names.now c.args.left c.args.suffix.now c.in-Method.name c.in-Method.given c.in-Method.span
    c.as_slice-items.result.now c.deref-in-Method.result.now c.entry_kind.result (length c.as_slice-items.result.now) c.method_call.result _ _ _
    c.in-Method.is c.as_slice-items.ensures c.deref-in-Method.ensures c.entry_kind.ensures refl
    (adds _ _ _ _ c.in_ok-arguments-in-Method.ensures) c.method_call.ensures

pub suffixed-returns-in_err-piece-in-Index : goal.suffixed-returns-in_err-piece-in-Index
suffixed-returns-in_err-piece-in-Index t c = without_memory _ _ _ _ _ c.from_residual-in_err-piece-in-Index.ensures.1

pub suffixed-returns-in_ok-piece-in-Index : goal.suffixed-returns-in_ok-piece-in-Index
suffixed-returns-in_ok-piece-in-Index t c =
    rw c.in-Index.is
    (writes_after (piece (reading c.args.s) c.args.n.now c.args.names.now None c.in-Index.key).code (index (reading c.args.s) c.args.left) c.index.result _ _ _
    (code_is _ _ _ _ c.in_ok-piece-in-Index.ensures) c.index.ensures)

pub arguments-returns-in_err-piece : goal.arguments-returns-in_err-piece
arguments-returns-in_err-piece t c = not_added _ _ _ _ _ c.from_residual.ensures.1

pub arguments-loop-i-preserved : goal.arguments-loop-i-preserved
arguments-loop-i-preserved t c =
    let s = reading c.args.s in
    arguments_more s c.args.n.now c.args.names.now (arguments_by s c.args.n.now c.args.names.now c.args.kinds.now c.args.given.now) c.args.code.now
    c.args.kinds.now c.args.given.now c.loop-i.i c.index-given-i.result c.in_ok-piece.field-0 c.loop-i.code c.piece.new.code c.loop-i-test.true c.index-given-i.is
    (rw (← c.expected_at.ensures) c.in_ok-piece.ensures) c.loop-i.invariant

pub arguments-returns : goal.arguments-returns
arguments-returns t c =
    let s = reading c.args.s in
    added _ _ _ _
    (arguments_end s c.args.n.now c.args.names.now (arguments_by s c.args.n.now c.args.names.now c.args.kinds.now c.args.given.now) c.args.code.now
    c.args.kinds.now c.args.given.now c.loop-i.i c.loop-i.code c.loop-i-test.false c.loop-i.invariant)

pub called-returns-in_err-kinds : goal.called-returns-in_err-kinds
called-returns-in_err-kinds t c = without_memory _ _ _ _ _ c.from_residual.ensures.1

pub called-returns-in_err-arguments : goal.called-returns-in_err-arguments
called-returns-in_err-arguments t c = without_memory _ _ _ _ _ c.from_residual-in_err-arguments.ensures.1

pub called-returns : goal.called-returns
called-returns t c =
    let s = reading c.args.s in
    writes_after (arguments_by s c.args.n.now c.args.names.now (formals_of s c.args.name.now) c.args.given.now) (named_call s c.args.n.now c.args.name.now) c.named_call.result _ _ _
    (subst (λ (ks : List Kind). Adds (arguments_by s c.args.n.now c.args.names.now ks c.args.given.now) c.args.code.now c.arguments.new.code)
    (c.as_slice.ensures ∙ c.in_ok-kinds.ensures) (adds _ _ _ _ c.in_ok-arguments.ensures))
    c.named_call.ensures

-- Expressions.

pub piece-returns-in_err-left-in-Operation : goal.piece-returns-in_err-left-in-Operation
piece-returns-in_err-left-in-Operation t c = without_memory _ _ _ _ _ c.from_residual.ensures.1

pub piece-returns-in_ok-left-in-Operation : goal.piece-returns-in_ok-left-in-Operation
piece-returns-in_ok-left-in-Operation t c =
    operation_writes (reading c.args.s) c.args.n.now c.args.names.now c.args.expected c.args.e.now c.in-Operation.first c.get.result.now
    c.in-Operation.others c.deref.result.now c.in-Operation.span c.in_ok-left-in-Operation.left c.operands.result _ _ _
    c.in-Operation.is c.get.ensures c.deref.ensures c.in_ok-left-in-Operation.ensures c.operands.ensures

pub piece-returns-in_err-left-in-Postfix : goal.piece-returns-in_err-left-in-Postfix
piece-returns-in_err-left-in-Postfix t c = without_memory _ _ _ _ _ c.from_residual-in_err-left-in-Postfix.ensures.1

pub piece-returns-in_ok-left-in-Postfix : goal.piece-returns-in_ok-left-in-Postfix
piece-returns-in_ok-left-in-Postfix t c =
    postfix_writes (reading c.args.s) c.args.n.now c.args.names.now c.args.expected c.args.e.now c.in-Postfix.inner c.get-in-Postfix.result.now
    c.in-Postfix.suffixes c.deref-in-Postfix.result.now c.in-Postfix.span c.in_ok-left-in-Postfix.left c.suffixed_all.result _ _ _
    c.in-Postfix.is c.get-in-Postfix.ensures c.deref-in-Postfix.ensures c.in_ok-left-in-Postfix.ensures c.suffixed_all.ensures

pub piece-returns-in-Not : goal.piece-returns-in-Not
piece-returns-in-Not t c =
    subst (λ (p : Piece). Writes p c.of_operand.result c.args.code.now c.of_operand.new.code)
    (operand_is (reading c.args.s) c.args.n.now c.args.names.now c.args.expected c.args.e.now c.in-Not.operand c.get-in-Not.result.now c.unary_of-unary.result
    c.in-Not.is c.unary_of-unary.ensures c.get-in-Not.ensures)
    c.of_operand.ensures

pub piece-returns-in-Call : goal.piece-returns-in-Call
piece-returns-in-Call t c =
    subst (λ (p : Piece). Writes p c.called.result c.args.code.now c.called.new.code)
    (call_is (reading c.args.s) c.args.n.now c.args.names.now c.args.expected c.args.e.now c.in-Call.name c.in-Call.given c.in-Call.span
    c.as_slice-items.result.now c.deref-in-Call.result.now c.in-Call.is c.as_slice-items.ensures c.deref-in-Call.ensures)
    c.called.ensures

pub piece-returns-in-Cast : goal.piece-returns-in-Cast
piece-returns-in-Cast t c =
    subst (λ (p : Piece). Writes p c.piece-in-Cast.result c.args.code.now c.piece-in-Cast.new.code)
    (cast_is (reading c.args.s) c.args.n.now c.args.names.now c.args.expected c.args.e.now c.in-Cast.inner c.get-in-Cast.result.now
    c.in-Cast.target c.in-Cast.mode c.in-Cast.span c.deref-in-Cast.result.now c.kind_written-k.result
    c.in-Cast.is c.get-in-Cast.ensures c.deref-in-Cast.ensures c.kind_written-k.ensures)
    c.piece-in-Cast.ensures

pub piece-returns-in-Group : goal.piece-returns-in-Group
piece-returns-in-Group t c =
    subst (λ (p : Piece). Writes p c.piece-in-Group.result c.args.code.now c.piece-in-Group.new.code)
    (group_is (reading c.args.s) c.args.n.now c.args.names.now c.args.expected c.args.e.now c.in-Group.inner c.get-in-Group.result.now c.in-Group.field-1
    c.in-Group.is c.get-in-Group.ensures)
    c.piece-in-Group.ensures
