use Rattle.std.proofs.Common.{codes, Err, ◌≡◌, ◌<◌, ◌≤◌, ◌∙◌, ℕ, List, get_or, length, Option, Ok, refl, sym, ap, subst}
use Rattle.std.proofs.lemmas.Result.{err_from_is_err_and}
use Rattle.slicc_ast.specs.declared.tree.statement.Block.{Block}
use Rattle.slicc_ast.specs.declared.tree.statement.ElseIf.{ElseIf}
use Rattle.slicc_ast.specs.declared.tree.statement.If.{out-If}
use Rattle.slicc_ast.specs.declared.tree.statement.Stmt.{Stmt}
use Rattle.ruby_value.specs.declared.message.Message.{Message}
use Rattle.acts.specs.declared.body_fault.BodyFault.TheVariants as own
use Rattle.acts.specs.Act as act
use Rattle.acts.specs.Prelude.{Acting, ◌>>=◌, act as done, found, DoesAs, itself}
use Rattle.acts.proofs.Walk.{does_ends_as, does_without_memory, then_does, then_stops}
use Rattle.body_meaning.specs.declared.frame.Flow.{Flow}
use Rattle.body_meaning.specs.declared.frame.Flow.TheVariants.{WentOn, Returned, Triggered}
use Rattle.body_meaning.specs.declared.frame.Frame.{Frame}
use Rattle.body_meaning.specs.declared.thing.Thing.TheVariants as thing
use Rattle.body_meaning.specs.Prelude.{calls_within, Calls, Ended, bind, ended, leave, message_of, port_named, Reading, reading, all_done, block_in, enqueued, exec, peeked, sent}
use Rattle.statement_walk.specs.Prelude.{otherwise_of, viewed}
use Rattle.statement_walk.proofs.Blocks.{scoped_ends, scoped_stops}
use Rattle.statement_walk.proofs.Rows.{Doing, exec_of_Enqueue, exec_of_Peek, nothing_done}
use Rattle.statement_walk.proofs.Steps.{all_ends, all_goes_on, all_returned, all_stops, all_triggered, arm_chosen, arm_passed, arm_stops, arms_end, if_first, if_second, if_stops}
use Rattle.statement_walk.proofs.walk.+statements.Goals as goal

-- Statements one after another.

pub all_done-loop-first-preserved : goal.all_done-loop-first-preserved
all_done-loop-first-preserved g t c = λ f result w rest.
    let s : Reading = reading c.args.s in
    let calls : Calls = calls_within s c.args.depth in
    let now = c.loop-first.frame in
    let later = c.exec.new.frame in
    let v = g.T.Local.view c.loop-first.local in
    let u = g.T.Local.view c.exec.new.local in
    c.loop-first.invariant f result w
    (all_goes_on s calls c.args.statements.now c.loop-first.first-index c.first-item.result c.loop-first-test.true c.first-item.is now later f v u w result
    (subst (λ (x : Flow). DoesAs (ended later) (exec s calls c.first-item.result now) (Ok x) v u) c.in-WentOn.is c.in_ok-exec.ensures)
    rest)

pub all_done-returns-in-Returned : goal.all_done-returns-in-Returned
all_done-returns-in-Returned g t c =
    let s : Reading = reading c.args.s in
    let calls : Calls = calls_within s c.args.depth in
    let now = c.loop-first.frame in
    let later = c.exec.new.frame in
    let v = g.T.Local.view c.loop-first.local in
    let u = g.T.Local.view c.exec.new.local in
    c.loop-first.invariant later (Ok (Returned c.in-Returned.t)) u
    (all_returned s calls c.args.statements.now c.loop-first.first-index c.first-item.result c.loop-first-test.true c.first-item.is now later later v u u c.in-Returned.t
    (subst (λ (x : Flow). DoesAs (ended later) (exec s calls c.first-item.result now) (Ok x) v u) c.in-Returned.is c.in_ok-exec.ensures))

pub all_done-returns-in-Triggered : goal.all_done-returns-in-Triggered
all_done-returns-in-Triggered g t c =
    let s : Reading = reading c.args.s in
    let calls : Calls = calls_within s c.args.depth in
    let now = c.loop-first.frame in
    let later = c.exec.new.frame in
    let v = g.T.Local.view c.loop-first.local in
    let u = g.T.Local.view c.exec.new.local in
    c.loop-first.invariant later (Ok (Triggered c.in-Triggered.t)) u
    (all_triggered s calls c.args.statements.now c.loop-first.first-index c.first-item.result c.loop-first-test.true c.first-item.is now later later v u u c.in-Triggered.t
    (subst (λ (x : Flow). DoesAs (ended later) (exec s calls c.first-item.result now) (Ok x) v u) c.in-Triggered.is c.in_ok-exec.ensures))

pub all_done-returns-in_err-exec : goal.all_done-returns-in_err-exec
all_done-returns-in_err-exec g t c =
    let s : Reading = reading c.args.s in
    let calls : Calls = calls_within s c.args.depth in
    let later = c.exec.new.frame in
    let u = g.T.Local.view c.exec.new.local in
    let p = err_from_is_err_and c.from_residual.result c.from_residual.ensures.1 in
    rw (p.1, p.2)
    (c.loop-first.invariant later _ u
    (all_stops s calls c.args.statements.now c.loop-first.first-index c.first-item.result c.loop-first-test.true c.first-item.is c.loop-first.frame later later (g.T.Local.view c.loop-first.local) u u _ c.in_err-exec.ensures))

pub all_done-returns : goal.all_done-returns
all_done-returns g t c =
    let s : Reading = reading c.args.s in
    let calls : Calls = calls_within s c.args.depth in
    let v = g.T.Local.view c.loop-first.local in
    c.loop-first.invariant c.loop-first.frame (Ok WentOn) v
    (all_ends s calls c.args.statements.now c.loop-first.first-index c.loop-first-test.false c.loop-first.frame v)

-- What an `if` does where its condition doesn't hold.

at_item : (items others : List ElseIf) (i : ℕ) (e : ElseIf) → items ≡ others → i < length items → e ≡ get_or items i e → (i < length others) × (e ≡ get_or others i e)
at_item items others i e same below is = subst (λ (es : List ElseIf). (i < length es) × (e ≡ get_or es i e)) same (below, is)

pub others_done-loop-other-preserved : goal.others_done-loop-other-preserved
others_done-loop-other-preserved g t c = λ f result w rest.
    let s : Reading = reading c.args.s in
    let calls : Calls = calls_within s c.args.depth in
    let others : List ElseIf = (out-If c.args.i.now).others in
    let at = at_item c.as_slice-other-items.result.now others c.loop-other.other-index c.other-item.result c.as_slice-other-items.ensures c.loop-other-test.true c.other-item.is in
    c.loop-other.invariant f result w
    (arm_passed s calls (otherwise_of s calls (out-If c.args.i.now).otherwise) others c.loop-other.other-index c.other-item.result at.0 at.1
    c.loop-other.frame f (g.T.Local.view c.loop-other.local) (g.T.Local.view c.value.new.local) w c.in_ok-t.t result c.in_ok-t.ensures (sym c.is_true.ensures ∙ c.if-is_true.false) rest)

pub others_done-returns-then-is_true : goal.others_done-returns-then-is_true
others_done-returns-then-is_true g t c =
    let s : Reading = reading c.args.s in
    let calls : Calls = calls_within s c.args.depth in
    let frame = c.loop-other.frame in
    let f = c.block_in.new.frame in
    let u = g.T.Local.view c.value.new.local in
    let w = g.T.Local.view c.block_in.new.local in
    let others : List ElseIf = (out-If c.args.i.now).others in
    let at = at_item c.as_slice-other-items.result.now others c.loop-other.other-index c.other-item.result c.as_slice-other-items.ensures c.loop-other-test.true c.other-item.is in
    c.loop-other.invariant f c.block_in.result w
    (arm_chosen s calls (otherwise_of s calls (out-If c.args.i.now).otherwise) others c.loop-other.other-index c.other-item.result at.0 at.1
    frame f (g.T.Local.view c.loop-other.local) u w c.in_ok-t.t c.block_in.result c.in_ok-t.ensures (sym c.is_true.ensures ∙ c.if-is_true.true)
    (subst (λ (ss : List Stmt). DoesAs (ended f) (block_in (all_done s calls ss) frame) c.block_in.result u w) c.deref.ensures c.block_in.ensures))

pub others_done-returns-in_err-t : goal.others_done-returns-in_err-t
others_done-returns-in_err-t g t c =
    let s : Reading = reading c.args.s in
    let calls : Calls = calls_within s c.args.depth in
    let frame = c.loop-other.frame in
    let u = g.T.Local.view c.value.new.local in
    let others : List ElseIf = (out-If c.args.i.now).others in
    let at = at_item c.as_slice-other-items.result.now others c.loop-other.other-index c.other-item.result c.as_slice-other-items.ensures c.loop-other-test.true c.other-item.is in
    let p = err_from_is_err_and c.from_residual.result c.from_residual.ensures.1 in
    rw (p.1, p.2)
    (c.loop-other.invariant frame _ u
    (arm_stops s calls (otherwise_of s calls (out-If c.args.i.now).otherwise) others c.loop-other.other-index c.other-item.result at.0 at.1
    frame frame (g.T.Local.view c.loop-other.local) u u _ c.in_err-t.ensures))

pub others_done-returns-in-None : goal.others_done-returns-in-None
others_done-returns-in-None g t c =
    let s : Reading = reading c.args.s in
    let calls : Calls = calls_within s c.args.depth in
    let frame : Frame = c.loop-other.frame in
    let v = g.T.Local.view c.loop-other.local in
    let others : List ElseIf = (out-If c.args.i.now).others in
    let past : length others ≤ c.loop-other.other-index = subst (λ (es : List ElseIf). length es ≤ c.loop-other.other-index) c.as_slice-other-items.ensures c.loop-other-test.false in
    c.loop-other.invariant frame (Ok WentOn) v
    (arms_end s calls (otherwise_of s calls (out-If c.args.i.now).otherwise) others c.loop-other.other-index past frame frame (Ok WentOn) v v
    (subst (λ (o : Option Block). DoesAs (ended frame) (otherwise_of s calls o frame) (Ok WentOn) v v) (sym c.in-None.is)
    (does_ends_as (ended frame) (ended frame WentOn) WentOn v refl)))

pub others_done-returns-in-Some : goal.others_done-returns-in-Some
others_done-returns-in-Some g t c =
    let s : Reading = reading c.args.s in
    let calls : Calls = calls_within s c.args.depth in
    let frame : Frame = c.loop-other.frame in
    let f : Frame = c.block_in-in-Some.new.frame in
    let v = g.T.Local.view c.loop-other.local in
    let w = g.T.Local.view c.block_in-in-Some.new.local in
    let others : List ElseIf = (out-If c.args.i.now).others in
    let past : length others ≤ c.loop-other.other-index = subst (λ (es : List ElseIf). length es ≤ c.loop-other.other-index) c.as_slice-other-items.ensures c.loop-other-test.false in
    c.loop-other.invariant f c.block_in-in-Some.result w
    (arms_end s calls (otherwise_of s calls (out-If c.args.i.now).otherwise) others c.loop-other.other-index past frame f c.block_in-in-Some.result v w
    (subst (λ (o : Option Block). DoesAs (ended f) (otherwise_of s calls o frame) c.block_in-in-Some.result v w) (sym c.in-Some.is)
    (subst (λ (ss : List Stmt). DoesAs (ended f) (block_in (all_done s calls ss) frame) c.block_in-in-Some.result v w) c.deref-in-Some.ensures c.block_in-in-Some.ensures)))

-- An `if`.

pub if_done-returns-then-is_true : goal.if_done-returns-then-is_true
if_done-returns-then-is_true g t c =
    if_first (reading c.args.s) (calls_within (reading c.args.s) c.args.depth) c.args.i.now c.args.frame.now c.block_in.new.frame
    (g.T.Local.view c.args.local.now) (g.T.Local.view c.value.new.local) (g.T.Local.view c.block_in.new.local)
    c.in_ok-t.t c.block_in.result c.deref.result.now c.in_ok-t.ensures (sym c.is_true.ensures ∙ c.if-is_true.true) c.deref.ensures c.block_in.ensures

pub if_done-returns : goal.if_done-returns
if_done-returns g t c =
    if_second (reading c.args.s) (calls_within (reading c.args.s) c.args.depth) c.args.i.now c.args.frame.now c.others_done.new.frame
    (g.T.Local.view c.args.local.now) (g.T.Local.view c.value.new.local) (g.T.Local.view c.others_done.new.local)
    c.in_ok-t.t c.others_done.result c.in_ok-t.ensures (sym c.is_true.ensures ∙ c.if-is_true.false) c.others_done.ensures

pub if_done-returns-in_err-t : goal.if_done-returns-in_err-t
if_done-returns-in_err-t g t c =
    let p = err_from_is_err_and c.from_residual.result c.from_residual.ensures.1 in
    rw (p.1, p.2)
    (if_stops (reading c.args.s) (calls_within (reading c.args.s) c.args.depth) c.args.i.now c.args.frame.now c.args.frame.now
    (g.T.Local.view c.args.local.now) (g.T.Local.view c.value.new.local) (g.T.Local.view c.value.new.local) _ c.in_err-t.ensures)

-- Statements with a block.

pub exec-returns-in-Peek : goal.exec-returns-in-Peek
exec-returns-in-Peek g t c =
    let s : Reading = reading c.args.s in
    let calls : Calls = calls_within s c.args.depth in
    let frame = c.args.frame.now in
    let is : peeked s.machine c.in-Peek.port.text (all_done s calls c.deref.result.now) frame ≡ exec s calls c.args.statement.now frame =
    ap (λ (ss : List Stmt). peeked s.machine c.in-Peek.port.text (all_done s calls ss) frame) c.deref.ensures
    ∙ sym (ap (λ (x : Stmt). exec s calls x frame) c.in-Peek.is ∙ exec_of_Peek s calls c.in-Peek.port c.in-Peek.message c.in-Peek.pairs c.in-Peek.body c.in-Peek.span frame) in
    subst (λ (p : Acting Ended). DoesAs (ended c.peeked.new.frame) p c.peeked.result (g.T.Local.view c.args.local.now) (g.T.Local.view c.peeked.new.local)) is c.peeked.ensures

pub exec-returns-in-Enqueue : goal.exec-returns-in-Enqueue
exec-returns-in-Enqueue g t c =
    let s : Reading = reading c.args.s in
    let calls : Calls = calls_within s c.args.depth in
    let frame = c.args.frame.now in
    let is : enqueued s calls c.in-Enqueue.port.text c.in-Enqueue.latency (all_done s calls c.deref-in-Enqueue.result.now) frame ≡ exec s calls c.args.statement.now frame =
    ap (λ (ss : List Stmt). enqueued s calls c.in-Enqueue.port.text c.in-Enqueue.latency (all_done s calls ss) frame) c.deref-in-Enqueue.ensures
    ∙ sym (ap (λ (x : Stmt). exec s calls x frame) c.in-Enqueue.is ∙ exec_of_Enqueue s calls c.in-Enqueue.port c.in-Enqueue.message c.in-Enqueue.latency c.in-Enqueue.body c.in-Enqueue.span frame) in
    subst (λ (p : Acting Ended). DoesAs (ended c.enqueued.new.frame) p c.enqueued.result (g.T.Local.view c.args.local.now) (g.T.Local.view c.enqueued.new.local)) is c.enqueued.ensures

pub peeked-returns : goal.peeked-returns
unfolding peeked
peeked-returns g t c =
    let s : Reading = reading c.args.s in
    let calls : Calls = calls_within s c.args.depth in
    let m = s.machine in
    let block : Doing = all_done s calls c.args.statements.now in
    let frame : Frame = c.args.frame.now in
    let f : Frame = c.viewed.new.frame in
    let v = g.T.Local.view c.args.local.now in
    let w = g.T.Local.view c.viewed.new.local in
    then_does itself (ended f) (found own.Reference (port_named m c.args.name.now.text))
    (λ buffer. found own.Reference (message_of m buffer) >>= (λ structure. done (act.Front buffer) >>= (λ (message : Message). viewed block structure message.fields frame)))
    c.in_ok-buffer.buffer c.viewed.result v v w c.in_ok-buffer.ensures
    (then_does itself (ended f) (found own.Reference (message_of m c.in_ok-buffer.buffer))
    (λ structure. done (act.Front c.in_ok-buffer.buffer) >>= (λ (message : Message). viewed block structure message.fields frame))
    c.in_ok-number.number c.viewed.result v v w c.in_ok-number.ensures
    (then_does itself (ended f) (done (act.Front c.in_ok-buffer.buffer)) (λ (message : Message). viewed block c.in_ok-number.number message.fields frame)
    c.in_ok-message.message c.viewed.result v v w c.in_ok-message.ensures c.viewed.ensures))

pub peeked-returns-in_err-buffer : goal.peeked-returns-in_err-buffer
unfolding peeked
peeked-returns-in_err-buffer g t c =
    let p = err_from_is_err_and c.from_residual.result c.from_residual.ensures.1 in rw (p.1, p.2) (then_stops _ _ _ _ _ _ _ _ c.in_err-buffer.ensures)

pub peeked-returns-in_err-number : goal.peeked-returns-in_err-number
unfolding peeked
peeked-returns-in_err-number g t c =
    let p = err_from_is_err_and c.from_residual-in_err-number.result c.from_residual-in_err-number.ensures.1 in
    rw (p.1, p.2) (then_does _ _ _ _ _ _ _ _ _ c.in_ok-buffer.ensures (then_stops _ _ _ _ _ _ _ _ c.in_err-number.ensures))

pub peeked-returns-in_err-message : goal.peeked-returns-in_err-message
unfolding peeked
peeked-returns-in_err-message g t c =
    let p = err_from_is_err_and c.from_residual-in_err-message.result c.from_residual-in_err-message.ensures.1 in
    rw (p.1, p.2) (then_does _ _ _ _ _ _ _ _ _ c.in_ok-buffer.ensures (then_does _ _ _ _ _ _ _ _ _ c.in_ok-number.ensures (then_stops _ _ _ _ _ _ _ _ c.in_err-message.ensures)))

pub viewed-returns-in_err-bind : goal.viewed-returns-in_err-bind
viewed-returns-in_err-bind g t c =
    let p = err_from_is_err_and c.from_residual.result c.from_residual.ensures.1 in rw (p.1, p.2) (does_without_memory _ _ _ _)

pub viewed-returns-in_err-flow : goal.viewed-returns-in_err-flow
viewed-returns-in_err-flow g t c =
    let p = err_from_is_err_and c.from_residual-in_err-flow.result c.from_residual-in_err-flow.ensures.1 in
    let message = thing.Message c.args.structure c.args.fields in
    rw (p.1, p.2)
    (scoped_stops (all_done (reading c.args.s) (calls_within (reading c.args.s) c.args.depth) c.args.statements.now) (length c.args.frame.now.names) (bind (codes "in_msg") message c.args.frame.now) c.bind.new.frame c.all_done.new.frame c.all_done.new.frame
    (c.in_ok-bind.ensures ∙ ap (λ (text : List ℕ). bind text message c.args.frame.now) c.as_slice.ensures) _ _ _ _ c.in_err-flow.ensures)

pub viewed-returns : goal.viewed-returns
viewed-returns g t c =
    let message = thing.Message c.args.structure c.args.fields in
    scoped_ends (all_done (reading c.args.s) (calls_within (reading c.args.s) c.args.depth) c.args.statements.now) (length c.args.frame.now.names) (bind (codes "in_msg") message c.args.frame.now) c.bind.new.frame c.all_done.new.frame c.leave.new.frame
    (c.in_ok-bind.ensures ∙ ap (λ (text : List ℕ). bind text message c.args.frame.now) c.as_slice.ensures) _ _ c.in_ok-flow.flow
    (c.leave.ensures ∙ ap (λ (n : ℕ). leave n c.all_done.new.frame) c.len-n.ensures) c.in_ok-flow.ensures

pub block_in-returns-in_err-flow : goal.block_in-returns-in_err-flow
block_in-returns-in_err-flow g t c =
    let p = err_from_is_err_and c.from_residual.result c.from_residual.ensures.1 in
    rw (p.1, p.2)
    (scoped_stops (all_done (reading c.args.s) (calls_within (reading c.args.s) c.args.depth) c.args.statements.now) (length c.args.frame.now.names) c.args.frame.now c.args.frame.now c.all_done.new.frame c.all_done.new.frame refl _ _ _ _ c.in_err-flow.ensures)

pub block_in-returns : goal.block_in-returns
block_in-returns g t c =
    scoped_ends (all_done (reading c.args.s) (calls_within (reading c.args.s) c.args.depth) c.args.statements.now) (length c.args.frame.now.names) c.args.frame.now c.args.frame.now c.all_done.new.frame c.leave.new.frame refl _ _ c.in_ok-flow.flow
    (c.leave.ensures ∙ ap (λ (n : ℕ). leave n c.all_done.new.frame) c.len-n.ensures) c.in_ok-flow.ensures

pub made_and_sent-returns-in_err-bind : goal.made_and_sent-returns-in_err-bind
made_and_sent-returns-in_err-bind g t c =
    let p = err_from_is_err_and c.from_residual.result c.from_residual.ensures.1 in rw (p.1, p.2) (does_without_memory _ _ _ _)

pub made_and_sent-returns-in_err-flow : goal.made_and_sent-returns-in_err-flow
made_and_sent-returns-in_err-flow g t c =
    let v = g.T.Local.view c.args.local.now in
    let u = g.T.Local.view c.all_done.new.local in
    let p = err_from_is_err_and c.from_residual-in_err-flow.result c.from_residual-in_err-flow.ensures.1 in
    let s : Reading = reading c.args.s in
    let calls : Calls = calls_within s c.args.depth in
    let block : Doing = all_done s calls c.args.statements.now in
    let f = c.all_done.new.frame in
    let bound : c.bind.new.frame ≡ bind (codes "out_msg") c.args.t c.args.frame.now = c.in_ok-bind.ensures ∙ ap (λ (text : List ℕ). bind text c.args.t c.args.frame.now) c.as_slice.ensures in
    rw (p.1, p.2)
    (then_stops (ended f) (ended f) (block (bind (codes "out_msg") c.args.t c.args.frame.now)) (λ (e : Ended). sent s calls c.args.buffer c.args.written.now (length c.args.frame.now.names) e.flow e.frame) c.in_err-flow.field-0.0 v u u
    (subst (λ (x : Frame). DoesAs (ended f) (block x) (Err c.in_err-flow.field-0.0) v u) bound c.in_err-flow.ensures))

pub made_and_sent-returns : goal.made_and_sent-returns
made_and_sent-returns g t c =
    let s : Reading = reading c.args.s in
    let calls : Calls = calls_within s c.args.depth in
    let block : Doing = all_done s calls c.args.statements.now in
    let f = c.all_done.new.frame in
    let h = c.sent.new.frame in
    let v = g.T.Local.view c.args.local.now in
    let u = g.T.Local.view c.all_done.new.local in
    let w = g.T.Local.view c.sent.new.local in
    let bound : c.bind.new.frame ≡ bind (codes "out_msg") c.args.t c.args.frame.now = c.in_ok-bind.ensures ∙ ap (λ (text : List ℕ). bind text c.args.t c.args.frame.now) c.as_slice.ensures in
    then_does (ended f) (ended h) (block (bind (codes "out_msg") c.args.t c.args.frame.now)) (λ (e : Ended). sent s calls c.args.buffer c.args.written.now (length c.args.frame.now.names) e.flow e.frame) c.in_ok-flow.flow c.sent.result v u w
    (subst (λ (x : Frame). DoesAs (ended f) (block x) (Ok c.in_ok-flow.flow) v u) bound c.in_ok-flow.ensures)
    (subst (λ (n : ℕ). DoesAs (ended h) (sent s calls c.args.buffer c.args.written.now n c.in_ok-flow.flow f) c.sent.result u w) c.len-n.ensures c.sent.ensures)

pub enqueued-returns-in_err-found : goal.enqueued-returns-in_err-found
unfolding enqueued
enqueued-returns-in_err-found g t c =
    let p = err_from_is_err_and c.from_residual.result c.from_residual.ensures.1 in rw (p.1, p.2) (then_stops _ _ _ _ _ _ _ _ c.in_err-found.ensures)

pub enqueued-returns-in_err-buffer : goal.enqueued-returns-in_err-buffer
unfolding enqueued
enqueued-returns-in_err-buffer g t c =
    let p = err_from_is_err_and c.from_residual-in_err-buffer.result c.from_residual-in_err-buffer.ensures.1 in
    rw (p.1, p.2) (then_does _ _ _ _ _ _ _ _ _ c.in_ok-found.ensures (then_stops _ _ _ _ _ _ _ _ c.in_err-buffer.ensures))

pub enqueued-returns-in_err-number : goal.enqueued-returns-in_err-number
unfolding enqueued
enqueued-returns-in_err-number g t c =
    let p = err_from_is_err_and c.from_residual-in_err-number.result c.from_residual-in_err-number.ensures.1 in
    rw (p.1, p.2) (then_does _ _ _ _ _ _ _ _ _ c.in_ok-found.ensures (then_does _ _ _ _ _ _ _ _ _ c.in_ok-buffer.ensures (then_stops _ _ _ _ _ _ _ _ c.in_err-number.ensures)))

pub enqueued-returns-in_err-t : goal.enqueued-returns-in_err-t
unfolding enqueued
enqueued-returns-in_err-t g t c =
    let p = err_from_is_err_and c.from_residual-in_err-t.result c.from_residual-in_err-t.ensures.1 in
    rw (p.1, p.2)
    (then_does _ _ _ _ _ _ _ _ _ c.in_ok-found.ensures
    (then_does _ _ _ _ _ _ _ _ _ c.in_ok-buffer.ensures (then_does _ _ _ _ _ _ _ _ _ c.in_ok-number.ensures (then_stops _ _ _ _ _ _ _ _ c.in_err-t.ensures))))

pub enqueued-returns : goal.enqueued-returns
unfolding enqueued
enqueued-returns g t c =
    then_does _ _ _ _ _ _ _ _ _ c.in_ok-found.ensures
    (then_does _ _ _ _ _ _ _ _ _ c.in_ok-buffer.ensures
    (then_does _ _ _ _ _ _ _ _ _ c.in_ok-number.ensures (then_does _ _ _ _ _ _ _ _ _ c.in_ok-t.ensures c.made_and_sent.ensures)))

-- Statements without a block, and an `if`.

pub exec-returns-in-Declare : goal.exec-returns-in-Declare
exec-returns-in-Declare g t c = rw c.in-Declare.is c.declared.ensures

pub exec-returns-in-Assign : goal.exec-returns-in-Assign
exec-returns-in-Assign g t c = rw c.in-Assign.is c.assigned.ensures

pub exec-returns-in-Evaluate : goal.exec-returns-in-Evaluate
exec-returns-in-Evaluate g t c = rw c.in-Evaluate.is c.evaluated.ensures

pub exec-returns-in-Return : goal.exec-returns-in-Return
exec-returns-in-Return g t c = rw c.in-Return.is c.returned.ensures

pub exec-returns-in-If : goal.exec-returns-in-If
exec-returns-in-If g t c = rw c.in-If.is c.if_done.ensures

pub exec-returns-in-StallAndWait : goal.exec-returns-in-StallAndWait
exec-returns-in-StallAndWait g t c = rw c.in-StallAndWait.is c.stalled.ensures

pub exec-returns-in-Error : goal.exec-returns-in-Error
exec-returns-in-Error g t c = rw c.in-Error.is c.failed.ensures

pub exec-returns-in-Assert : goal.exec-returns-in-Assert
exec-returns-in-Assert g t c = rw c.in-Assert.is c.asserted.ensures

pub exec-returns-in-CheckAllocate : goal.exec-returns-in-CheckAllocate
exec-returns-in-CheckAllocate g t c =
    let frame = c.args.frame.now in
    let v = g.T.Local.view c.args.local.now in
    subst (λ (p : Acting Ended). DoesAs (ended frame) p (Ok WentOn) v v) (sym (nothing_done (reading c.args.s) (calls_within (reading c.args.s) c.args.depth) c.args.statement.now frame c.in-CheckAllocate.is))
    (does_ends_as (ended frame) (ended frame WentOn) WentOn v refl)
