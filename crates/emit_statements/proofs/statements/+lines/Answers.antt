use Rattle.std.proofs.Common.{◌≡◌, ◌∙◌, ◌+◌, ℕ, Bool, true, false, List, Option, None, Ok, refl, rules, sym, ap, subst}
use Rattle.slicc_ast.specs.declared.tree.statement.Block.{Block}
use Rattle.slicc_ast.specs.declared.tree.statement.ElseIf.{ElseIf}
use Rattle.slicc_ast.specs.declared.tree.statement.If.{out-If}
use Rattle.slicc_ast.specs.declared.tree.statement.Stmt.{Stmt}
use Rattle.std.specs.Prelude.{◌||◌, codes, nat_lt}
use Rattle.body_meaning.specs.Prelude.{reading}
use Rattle.body_code.specs.declared.left.Home.TheVariants as home
use Rattle.body_code.specs.Prelude.{all_lines, followed_by, goes_on, home_of, if_line, in_block, line, nothing, piece}
use Rattle.body_code.specs.Statements.{chosen, enqueued, outer_of, peeked, sent}
use Rattle.emit_statements.specs.Prelude.{WritesArm, WritesLine, ending_of, filled_all, goes_on_after, line_or, named_block, others_by, otherwise_by}
use Rattle.emit_expressions.proofs.Adding.{adds, adds_none}
use Rattle.emit_statements.proofs.ArmSteps.{arm_if_ok, arms_end, arms_more, first_passed_writes, more_at, otherwise_there, passed_writes}
use Rattle.emit_statements.proofs.BlockSteps.{enqueued_is, made, made_writes, named_writes, nothing_enqueued, nothing_peeked, peek_writes, sending_is}
use Rattle.emit_statements.proofs.Following.{block_writes, follows, line_of, line_wrote, stops_there, without_line}
use Rattle.emit_statements.proofs.LineSteps.{lines_end, lines_more, lines_stop}
use Rattle.emit_statements.proofs.Pushing.{named_piece}
use Rattle.emit_statements.proofs.StatementForms.{Doing, if_is, line_of_Enqueue, line_of_Peek}
use Rattle.emit_statements.proofs.statements.+lines.Goals as goal

pub in_block-returns-in_err-names : goal.in_block-returns-in_err-names
in_block-returns-in_err-names t c = without_line _ _ _ _ _ _ c.from_residual.ensures.1

pub in_block-returns-in_err-goes_on : goal.in_block-returns-in_err-goes_on
in_block-returns-in_err-goes_on t c = without_line _ _ _ _ _ _ c.from_residual-in_err-goes_on.ensures.1

pub in_block-returns : goal.in_block-returns
in_block-returns t c =
    block_writes c.in_ok-names.names (all_lines (reading c.args.s) c.args.n.now (ending_of c.args.ending) c.args.statements.now) c.args.own.now c.all_lines.new.own c.in_ok-goes_on.goes_on
    c.args.code.now c.all_lines.new.code (c.in_ok-names.ensures ∙ c.deref.ensures) c.in_ok-goes_on.ensures

pub named_block-returns-in_err-names : goal.named_block-returns-in_err-names
named_block-returns-in_err-names t c = without_line _ _ _ _ _ _ c.from_residual.ensures.1

pub named_block-returns-in_err-bind : goal.named_block-returns-in_err-bind
named_block-returns-in_err-bind t c = without_line _ _ _ _ _ _ c.from_residual-in_err-bind.ensures.1

pub named_block-returns-in_err-goes_on : goal.named_block-returns-in_err-goes_on
named_block-returns-in_err-goes_on t c = without_line _ _ _ _ _ _ c.from_residual-in_err-goes_on.ensures.1

pub named_block-returns : goal.named_block-returns
named_block-returns t c =
    named_writes (reading c.args.s) c.args.n.now (ending_of c.args.ending) c.args.name.now c.args.home c.args.statements.now c.args.own.now c.all_lines.new.own
    c.bind.new.names c.in_ok-names.names c.in_ok-goes_on.goes_on c.args.code.now c.all_lines.new.code (c.in_ok-names.ensures ∙ c.deref.ensures) c.in_ok-bind.ensures c.in_ok-goes_on.ensures

pub all_lines-returns-in_err-goes_on : goal.all_lines-returns-in_err-goes_on
all_lines-returns-in_err-goes_on t c = without_line _ _ _ _ _ _ c.from_residual.ensures.1

pub others-returns-in_err-jump : goal.others-returns-in_err-jump
others-returns-in_err-jump t c = without_line _ _ _ _ _ _ c.from_residual.ensures.1

pub others-returns-in_err-with_jump : goal.others-returns-in_err-with_jump
others-returns-in_err-with_jump t c = without_line _ _ _ _ _ _ c.from_residual-in_err-with_jump.ensures.1

pub if_line-returns-in_err-jump : goal.if_line-returns-in_err-jump
if_line-returns-in_err-jump t c = without_line _ _ _ _ _ _ c.from_residual.ensures.1

pub if_line-returns-in_err-other : goal.if_line-returns-in_err-other
if_line-returns-in_err-other t c = without_line _ _ _ _ _ _ c.from_residual-in_err-other.ensures.1

-- Statements without a block.

pub line-returns-in-Declare : goal.line-returns-in-Declare
line-returns-in-Declare t c = rw c.in-Declare.is c.declared.ensures

pub line-returns-in-Assign : goal.line-returns-in-Assign
line-returns-in-Assign t c = rw c.in-Assign.is (c.assigned.ensures (ending_of c.args.ending))

pub line-returns-in-Evaluate : goal.line-returns-in-Evaluate
line-returns-in-Evaluate t c = rw c.in-Evaluate.is (c.evaluated.ensures (ending_of c.args.ending))

pub line-returns-in-Return : goal.line-returns-in-Return
line-returns-in-Return t c = rw c.in-Return.is c.returned.ensures

pub line-returns-in-If : goal.line-returns-in-If
line-returns-in-If t c = rw c.in-If.is c.if_line.ensures

pub line-returns-in-StallAndWait : goal.line-returns-in-StallAndWait
line-returns-in-StallAndWait t c = rw c.in-StallAndWait.is c.stalled.ensures

pub line-returns-in-Error : goal.line-returns-in-Error
line-returns-in-Error t c = rw c.in-Error.is c.failed.ensures

pub line-returns-in-Assert : goal.line-returns-in-Assert
line-returns-in-Assert t c = rw c.in-Assert.is c.asserted.ensures

pub line-returns-in-CheckAllocate : goal.line-returns-in-CheckAllocate
line-returns-in-CheckAllocate t c =
    rw c.in-CheckAllocate.is (line_wrote (goes_on nothing c.args.own.now) true c.args.code.now c.args.code.now c.args.own.now refl refl (adds_none c.args.code.now))

pub line-returns-in-Print : goal.line-returns-in-Print
line-returns-in-Print t c =
    rw c.in-Print.is (line_wrote (goes_on nothing c.args.own.now) true c.args.code.now c.args.code.now c.args.own.now refl refl (adds_none c.args.code.now))

pub line-returns-in-Peek : goal.line-returns-in-Peek
line-returns-in-Peek t c =
    let s = reading c.args.s in
    let e = ending_of c.args.ending in
    line_of (peeked s c.args.n.now e c.in-Peek.port.text (all_lines s c.args.n.now e c.as_slice-statements.result.now) c.args.own.now)
    (line s c.args.n.now e c.args.statement.now c.args.own.now) c.peeked.result c.args.code.now c.peeked.new.code c.peeked.new.own
    (ap (λ (xs : List Stmt). peeked s c.args.n.now e c.in-Peek.port.text (all_lines s c.args.n.now e xs) c.args.own.now) c.as_slice-statements.ensures
    ∙ sym (ap (λ (x : Stmt). line s c.args.n.now e x c.args.own.now) c.in-Peek.is
    ∙ ap (λ (d : Doing). d c.args.own.now) (line_of_Peek s c.args.n.now e c.in-Peek.port c.in-Peek.message c.in-Peek.pairs c.in-Peek.body c.in-Peek.span)))
    c.peeked.ensures

pub line-returns-in-Enqueue : goal.line-returns-in-Enqueue
line-returns-in-Enqueue t c =
    let s = reading c.args.s in
    let e = ending_of c.args.ending in
    line_of (enqueued s c.args.n.now e c.in-Enqueue.port.text c.in-Enqueue.latency (all_lines s c.args.n.now e c.as_slice-statements-in-Enqueue.result.now) c.args.own.now)
    (line s c.args.n.now e c.args.statement.now c.args.own.now) c.enqueued.result c.args.code.now c.enqueued.new.code c.enqueued.new.own
    (ap (λ (xs : List Stmt). enqueued s c.args.n.now e c.in-Enqueue.port.text c.in-Enqueue.latency (all_lines s c.args.n.now e xs) c.args.own.now) c.as_slice-statements-in-Enqueue.ensures
    ∙ sym (ap (λ (x : Stmt). line s c.args.n.now e x c.args.own.now) c.in-Enqueue.is
    ∙ ap (λ (d : Doing). d c.args.own.now) (line_of_Enqueue s c.args.n.now e c.in-Enqueue.port c.in-Enqueue.message c.in-Enqueue.latency c.in-Enqueue.body c.in-Enqueue.span)))
    c.enqueued.ensures

pub all_lines-returns-then-not-goes_on : goal.all_lines-returns-then-not-goes_on
all_lines-returns-then-not-goes_on t c =
    let s = reading c.args.s in
    let e = ending_of c.args.ending in
    lines_stop s c.args.n.now e c.args.statements.now (all_lines s c.args.n.now e c.args.statements.now c.args.own.now) c.args.code.now c.loop-first.first-index
    c.first-item.result c.loop-first-test.true c.first-item.is c.loop-first.own c.line.new.own c.loop-first.code c.line.new.code
    (subst (λ (b : Bool). WritesLine (line s c.args.n.now e c.first-item.result c.loop-first.own) (Ok b) c.loop-first.code c.line.new.code c.line.new.own) (search rules) c.in_ok-goes_on.ensures)
    c.loop-first.invariant

pub all_lines-loop-first-preserved : goal.all_lines-loop-first-preserved
all_lines-loop-first-preserved t c =
    let s = reading c.args.s in
    let e = ending_of c.args.ending in
    lines_more s c.args.n.now e c.args.statements.now (all_lines s c.args.n.now e c.args.statements.now c.args.own.now) c.args.code.now c.loop-first.first-index
    c.first-item.result c.loop-first-test.true c.first-item.is c.loop-first.own c.line.new.own c.loop-first.code c.line.new.code
    (subst (λ (b : Bool). WritesLine (line s c.args.n.now e c.first-item.result c.loop-first.own) (Ok b) c.loop-first.code c.line.new.code c.line.new.own) (search rules) c.in_ok-goes_on.ensures)
    c.loop-first.invariant

pub all_lines-returns : goal.all_lines-returns
all_lines-returns t c =
    let s = reading c.args.s in
    let e = ending_of c.args.ending in
    lines_end s c.args.n.now e c.args.statements.now (all_lines s c.args.n.now e c.args.statements.now c.args.own.now) c.args.code.now c.loop-first.first-index
    c.loop-first.own c.loop-first.code c.loop-first-test.false c.loop-first.invariant

-- Messages.

pub peeked-returns-in_default : goal.peeked-returns-in_default
peeked-returns-in_default t c =
    let s = reading c.args.s in
    let e = ending_of c.args.ending in
    line_of (goes_on nothing c.args.own.now) (peeked s c.args.n.now e c.args.port.now.text (all_lines s c.args.n.now e c.args.statements.now) c.args.own.now) (Ok true)
    c.args.code.now c.args.code.now c.args.own.now
    (nothing_peeked s c.args.n.now e (all_lines s c.args.n.now e c.args.statements.now) c.args.own.now c.args.port.now.text (sym c.in_default.ensures))
    (line_wrote (goes_on nothing c.args.own.now) true c.args.code.now c.args.code.now c.args.own.now refl refl (adds_none c.args.code.now))

pub peeked-returns-in_err-push : goal.peeked-returns-in_err-push
peeked-returns-in_err-push t c = without_line _ _ _ _ _ _ c.from_residual.ensures.1

pub peeked-returns-in_err-goes_on : goal.peeked-returns-in_err-goes_on
peeked-returns-in_err-goes_on t c = without_line _ _ _ _ _ _ c.from_residual-in_err-goes_on.ensures.1

pub peeked-returns-in_err-closed : goal.peeked-returns-in_err-closed
peeked-returns-in_err-closed t c = without_line _ _ _ _ _ _ c.from_residual-in_err-closed.ensures.1

pub peeked-returns : goal.peeked-returns
peeked-returns t c =
    peek_writes (reading c.args.s) c.args.n.now (ending_of c.args.ending) c.args.port.now.text c.as_slice-name.result.now c.in-Some.at c.args.statements.now c.args.own.now c.named_block.new.own
    c.in_ok-goes_on.goes_on c.args.code.now c.push.new.self c.named_block.new.code c.closed.new.code c.in-Some.ensures c.in_ok-push.ensures.ok c.as_slice-name.ensures
    c.in_ok-goes_on.ensures c.in_ok-closed.ensures

pub enqueued-returns-in_default : goal.enqueued-returns-in_default
enqueued-returns-in_default t c =
    let s = reading c.args.s in
    let e = ending_of c.args.ending in
    line_of (goes_on nothing c.args.own.now) (enqueued s c.args.n.now e c.args.port.now.text c.args.latency.now (all_lines s c.args.n.now e c.args.statements.now) c.args.own.now) (Ok true)
    c.args.code.now c.args.code.now c.args.own.now
    (nothing_enqueued s c.args.n.now e (all_lines s c.args.n.now e c.args.statements.now) c.args.own.now c.args.latency.now c.args.port.now.text (sym c.in_default.ensures))
    (line_wrote (goes_on nothing c.args.own.now) true c.args.code.now c.args.code.now c.args.own.now refl refl (adds_none c.args.code.now))

pub enqueued-returns-in_err-fields_read : goal.enqueued-returns-in_err-fields_read
enqueued-returns-in_err-fields_read t c = without_line _ _ _ _ _ _ c.from_residual.ensures.1

pub enqueued-returns-in_err-opened : goal.enqueued-returns-in_err-opened
enqueued-returns-in_err-opened t c = without_line _ _ _ _ _ _ c.from_residual-in_err-opened.ensures.1

pub enqueued-returns-in_err-goes_on : goal.enqueued-returns-in_err-goes_on
enqueued-returns-in_err-goes_on t c = without_line _ _ _ _ _ _ c.from_residual-in_err-goes_on.ensures.1

-- Arms.

pub arm-returns : goal.arm-returns
arm-returns t c =
    let s = reading c.args.s in
    let e = ending_of c.args.ending in
    arm_if_ok (piece s c.args.n.now c.args.own.now.names None c.args.condition.now).code (in_block (all_lines s c.args.n.now e c.args.statements.now)) c.in_ok-goes_on.goes_on c.args.more c.passes-has_jump.result
    c.args.own.now c.in_block.new.own c.args.code.now c.piece.new.code c.hole.new.code c.in_block.new.code c.close_arm.new.code c.in_ok-test.test c.close_arm.result
    (named_piece s c.args.n.now c.deref.result.now c.args.own.now.names None c.args.condition.now c.in_ok-piece.field-0 c.args.code.now c.piece.new.code c.deref.ensures c.in_ok-piece.ensures)
    c.in_ok-test.ensures.at c.in_ok-test.ensures.added c.in_ok-goes_on.ensures c.passes-has_jump.ensures c.close_arm.ensures.jump c.close_arm.ensures.closed

pub others-loop-k-preserved : goal.others-loop-k-preserved
others-loop-k-preserved t c =
    let s = reading c.args.s in
    let n = c.args.n.now in
    let e = ending_of c.args.ending in
    let otherwise = otherwise_by s n e (out-If c.args.i.now).otherwise in
    let arms = c.as_slice-arms.result.now in
    let whole = line_or (others_by s n e otherwise arms) c.args.own.now in
    arms_more s n e otherwise arms whole c.args.code.now c.loop-k.k c.index-arms-k.result c.loop-k.own c.arm.new.own c.loop-k.code c.arm.new.code c.loop-k.jumps c.with_jump.new.jumps
    c.in_ok-jump.jump c.has_more-more.result c.loop-k-test.true c.index-arms-k.is
    (subst (λ (xs : List Stmt). WritesArm (λ rest. chosen s n e c.index-arms-k.result.condition (all_lines s n e xs) rest c.loop-k.own) c.has_more-more.result c.in_ok-jump.jump c.loop-k.code c.arm.new.code c.arm.new.own)
    c.deref.ensures c.in_ok-jump.ensures)
    (more_at s n e otherwise arms whole c.args.code.now (c.loop-k.k + 1) c.is_some-has_last.result (c.is_some-has_last.ensures ∙ otherwise_there s n e (out-If c.args.i.now).otherwise) ∙ sym c.has_more-more.ensures)
    c.in_ok-with_jump.ensures c.loop-k.invariant

pub others-returns-in_err-other-in-Some : goal.others-returns-in_err-other-in-Some
others-returns-in_err-other-in-Some t c = without_line _ _ _ _ _ _ c.from_residual-in_err-other-in-Some.ensures.1

pub enqueued-returns-in_default-structure_at : goal.enqueued-returns-in_default-structure_at
enqueued-returns-in_default-structure_at t c =
    let s = reading c.args.s in
    let e = ending_of c.args.ending in
    line_of (goes_on nothing c.args.own.now) (enqueued s c.args.n.now e c.args.port.now.text c.args.latency.now (all_lines s c.args.n.now e c.args.statements.now) c.args.own.now) (Ok true)
    c.args.code.now c.args.code.now c.args.own.now
    (enqueued_is s c.args.n.now e (all_lines s c.args.n.now e c.args.statements.now) c.args.own.now c.args.latency.now c.args.port.now.text c.in-Some.at None c.in-Some.ensures c.in_default-structure_at.ensures)
    (line_wrote (goes_on nothing c.args.own.now) true c.args.code.now c.args.code.now c.args.own.now refl refl (adds_none c.args.code.now))

pub enqueued-returns-then-not-goes_on : goal.enqueued-returns-then-not-goes_on
enqueued-returns-then-not-goes_on t c =
    let s = reading c.args.s in
    let n = c.args.n.now in
    let e = ending_of c.args.ending in
    let outer = c.outer_of-outer.result in
    let structure = c.in-Some-structure_at.t.now in
    let outer_is = c.outer_of-outer.ensures ∙ ap (outer_of c.args.latency.now) (c.home_of.ensures ∙ ap (λ (text : List ℕ). home_of text c.deref.result.now) c.as_slice.ensures ∙ ap (home_of (codes "out_msg")) c.deref.ensures) in
    line_of (followed_by (made s n e c.in-Some.at.1 structure outer c.args.statements.now c.args.own.now) (sent s n e c.in-Some.at.0 c.args.latency.now outer))
    (enqueued s n e c.args.port.now.text c.args.latency.now (all_lines s n e c.args.statements.now) c.args.own.now) (Ok false)
    c.args.code.now c.named_block.new.code c.named_block.new.own
    (sending_is s n e c.args.port.now.text c.in-Some.at structure c.args.latency.now outer c.args.statements.now c.args.own.now c.in-Some.ensures c.in-Some-structure_at.ensures outer_is)
    (stops_there (made s n e c.in-Some.at.1 structure outer c.args.statements.now c.args.own.now) (sent s n e c.in-Some.at.0 c.args.latency.now outer) c.args.code.now c.named_block.new.code c.named_block.new.own
    (made_writes s n e c.in-Some.at.1 structure outer c.as_slice-name.result.now c.args.statements.now c.args.own.now c.named_block.new.own false
    c.args.code.now c.fields_read.new.code c.opened.new.code c.named_block.new.code (adds _ _ _ _ c.in_ok-fields_read.ensures) (adds _ _ _ _ c.in_ok-opened.ensures) c.as_slice-name.ensures
    (subst (λ (b : Bool). WritesLine (named_block s n e c.as_slice-name.result.now (home.Made c.in-Some.at.1) c.args.statements.now c.args.own.now) (Ok b) c.opened.new.code c.named_block.new.code c.named_block.new.own)
    c.if-not-goes_on.true c.in_ok-goes_on.ensures)))

pub enqueued-returns : goal.enqueued-returns
enqueued-returns t c =
    let s = reading c.args.s in
    let n = c.args.n.now in
    let e = ending_of c.args.ending in
    let outer = c.outer_of-outer.result in
    let structure = c.in-Some-structure_at.t.now in
    let outer_is = c.outer_of-outer.ensures ∙ ap (outer_of c.args.latency.now) (c.home_of.ensures ∙ ap (λ (text : List ℕ). home_of text c.deref.result.now) c.as_slice.ensures ∙ ap (home_of (codes "out_msg")) c.deref.ensures) in
    let on : c.in_ok-goes_on.goes_on ≡ true = search rules in
    line_of (followed_by (made s n e c.in-Some.at.1 structure outer c.args.statements.now c.args.own.now) (sent s n e c.in-Some.at.0 c.args.latency.now outer))
    (enqueued s n e c.args.port.now.text c.args.latency.now (all_lines s n e c.args.statements.now) c.args.own.now) c.sent.result
    c.args.code.now c.sent.new.code c.sent.new.own
    (sending_is s n e c.args.port.now.text c.in-Some.at structure c.args.latency.now outer c.args.statements.now c.args.own.now c.in-Some.ensures c.in-Some-structure_at.ensures outer_is)
    (follows (made s n e c.in-Some.at.1 structure outer c.args.statements.now c.args.own.now) (sent s n e c.in-Some.at.0 c.args.latency.now outer) c.sent.result
    c.args.code.now c.named_block.new.code c.sent.new.code c.named_block.new.own c.sent.new.own
    (made_writes s n e c.in-Some.at.1 structure outer c.as_slice-name.result.now c.args.statements.now c.args.own.now c.named_block.new.own true
    c.args.code.now c.fields_read.new.code c.opened.new.code c.named_block.new.code (adds _ _ _ _ c.in_ok-fields_read.ensures) (adds _ _ _ _ c.in_ok-opened.ensures) c.as_slice-name.ensures
    (subst (λ (b : Bool). WritesLine (named_block s n e c.as_slice-name.result.now (home.Made c.in-Some.at.1) c.args.statements.now c.args.own.now) (Ok b) c.opened.new.code c.named_block.new.code c.named_block.new.own)
    on c.in_ok-goes_on.ensures))
    (c.sent.ensures e))

-- An `if`.

pub if_line-returns : goal.if_line-returns
if_line-returns t c =
    let s = reading c.args.s in
    let n = c.args.n.now in
    let e = ending_of c.args.ending in
    let i = out-If c.args.i.now in
    let otherwise = otherwise_by s n e i.otherwise in
    let others = others_by s n e otherwise i.others in
    let whole = chosen s n e i.condition (all_lines s n e i.then.statements) others c.args.own.now in
    let more_is = more_at s n e otherwise i.others whole c.args.code.now 0 c.is_some.result (c.is_some.ensures ∙ otherwise_there s n e i.otherwise)
    ∙ sym (c.has_more-more.ensures ∙ ap (λ (m : ℕ). nat_lt 0 m || c.is_some.result) c.len.ensures) in
    let first = subst (λ (xs : List Stmt). WritesArm (λ rest. chosen s n e i.condition (all_lines s n e xs) rest c.args.own.now) c.has_more-more.result c.in_ok-jump.jump c.args.code.now c.arm.new.code c.arm.new.own)
    c.deref.ensures c.in_ok-jump.ensures in
    line_of whole (if_line s n e c.args.i.now c.args.own.now) c.first_passed.result c.args.code.now c.first_passed.new.code c.others.new.own
    (sym (ap (λ (d : Doing). d c.args.own.now) (if_is s n e c.args.i.now)))
    (first_passed_writes whole c.in_ok-jump.jump c.in_ok-other.other c.args.code.now c.others.new.code c.first_passed.new.code c.others.new.own c.first_passed.result
    c.first_passed.ensures.goes_on c.first_passed.ensures.all
    (first others c.in_ok-other.other c.others.new.code c.others.new.own more_is c.in_ok-other.ensures))

pub others-returns-in-None : goal.others-returns-in-None
others-returns-in-None t c =
    let s = reading c.args.s in
    let n = c.args.n.now in
    let e = ending_of c.args.ending in
    let otherwise = otherwise_by s n e (out-If c.args.i.now).otherwise in
    let arms = c.as_slice-arms.result.now in
    let whole = line_or (others_by s n e otherwise arms) c.args.own.now in
    let last = subst (λ (o : Option Block). WritesLine (line_or (otherwise_by s n e o) c.loop-k.own) (Ok true) c.loop-k.code c.loop-k.code c.loop-k.own) (sym c.in-None.is)
    (line_wrote (goes_on nothing c.loop-k.own) true c.loop-k.code c.loop-k.code c.loop-k.own refl refl (adds_none c.loop-k.code)) in
    line_of whole (line_or (others_by s n e otherwise (out-If c.args.i.now).others) c.args.own.now) c.passed.result c.args.code.now c.passed.new.code c.loop-k.own
    (ap (λ (xs : List ElseIf). line_or (others_by s n e otherwise xs) c.args.own.now) c.as_slice-arms.ensures)
    (passed_writes whole c.as_slice.result.now true c.args.code.now c.loop-k.code c.passed.new.code c.loop-k.own c.passed.result c.passed.ensures.goes_on c.passed.ensures.all
    (subst (λ (js : List ℕ). WritesLine whole (Ok (goes_on_after js true)) c.args.code.now (filled_all js c.loop-k.code) c.loop-k.own) (sym c.as_slice.ensures)
    (arms_end s n e otherwise arms whole c.args.code.now c.loop-k.k c.loop-k.own c.loop-k.own c.loop-k.code c.loop-k.code c.loop-k.jumps true c.loop-k-test.false c.loop-k.invariant last)))

pub others-returns : goal.others-returns
others-returns t c =
    let s = reading c.args.s in
    let n = c.args.n.now in
    let e = ending_of c.args.ending in
    let otherwise = otherwise_by s n e (out-If c.args.i.now).otherwise in
    let arms = c.as_slice-arms.result.now in
    let whole = line_or (others_by s n e otherwise arms) c.args.own.now in
    let other = c.in_ok-other-in-Some.other in
    let last = subst (λ (o : Option Block). WritesLine (line_or (otherwise_by s n e o) c.loop-k.own) (Ok other) c.loop-k.code c.in_block.new.code c.in_block.new.own) (sym c.in-Some.is)
    (subst (λ (xs : List Stmt). WritesLine (in_block (all_lines s n e xs) c.loop-k.own) (Ok other) c.loop-k.code c.in_block.new.code c.in_block.new.own) c.deref-in-Some.ensures c.in_ok-other-in-Some.ensures) in
    line_of whole (line_or (others_by s n e otherwise (out-If c.args.i.now).others) c.args.own.now) c.passed-in-Some.result c.args.code.now c.passed-in-Some.new.code c.in_block.new.own
    (ap (λ (xs : List ElseIf). line_or (others_by s n e otherwise xs) c.args.own.now) c.as_slice-arms.ensures)
    (passed_writes whole c.as_slice-in-Some.result.now other c.args.code.now c.in_block.new.code c.passed-in-Some.new.code c.in_block.new.own c.passed-in-Some.result c.passed-in-Some.ensures.goes_on c.passed-in-Some.ensures.all
    (subst (λ (js : List ℕ). WritesLine whole (Ok (goes_on_after js other)) c.args.code.now (filled_all js c.in_block.new.code) c.in_block.new.own) (sym c.as_slice-in-Some.ensures)
    (arms_end s n e otherwise arms whole c.args.code.now c.loop-k.k c.loop-k.own c.in_block.new.own c.loop-k.code c.in_block.new.code c.loop-k.jumps other c.loop-k-test.false c.loop-k.invariant last)))
