use Rattle.std.proofs.Common.{◌≡◌, ◌∙◌, ◌++◌, ◌∷◌, [], ℕ, List, None, ap, refl, subst, sym}
use Rattle.std.proofs.lemmas.Result.{err_from_is_err_and}
use Rattle.ruby_value.specs.declared.value.Value.{Value}
use Rattle.acts.specs.Prelude.{Acting, given, DoesAs, itself}
use Rattle.acts.proofs.Walk.{decided_does, does_ends_as, then_does, then_stops, undecided_does}
use Rattle.body_meaning.specs.declared.thing.Thing.{Thing}
use Rattle.body_meaning.specs.Prelude.{calls_within, index, method_call, each, field_in, operand_step, operated, suffixed, value_step, values_of, joined, settled, reading}
use Rattle.body_walk.proofs.Arms.{call_does, inner_does, leaf_is, method_does, method_stops, operand_does, operation_does, operation_stops, postfix_does, postfix_stops, value_added, value_not_added}
use Rattle.body_walk.proofs.Each.{leads_ends, leads_more, leads_stops}
use Rattle.body_walk.proofs.expressions.+value.Goals as goal

pub operands-loop-o-preserved : goal.operands-loop-o-preserved
operands-loop-o-preserved g t c =
    leads_more (operand_step (reading c.args.s) (calls_within (reading c.args.s) c.args.depth) c.args.frame.now) (each (operand_step (reading c.args.s) (calls_within (reading c.args.s) c.args.depth) c.args.frame.now) c.args.first c.args.others.now) (g.T.Local.view c.args.local.now) c.args.others.now c.loop-o.o-index c.o-item.result c.loop-o.left c.in_ok-left.left (g.T.Local.view c.loop-o.local) (g.T.Local.view c.operated.new.local)
    c.loop-o-test.true c.o-item.is
    c.in_ok-left.ensures
    c.loop-o.invariant

pub operands-returns-in_err-left : goal.operands-returns-in_err-left
operands-returns-in_err-left g t c =
    let p = err_from_is_err_and c.from_residual.result c.from_residual.ensures.1 in rw (p.1, p.2)
    (leads_stops (operand_step (reading c.args.s) (calls_within (reading c.args.s) c.args.depth) c.args.frame.now) (each (operand_step (reading c.args.s) (calls_within (reading c.args.s) c.args.depth) c.args.frame.now) c.args.first c.args.others.now) (g.T.Local.view c.args.local.now) c.args.others.now c.loop-o.o-index c.o-item.result c.loop-o.left _ (g.T.Local.view c.loop-o.local) (g.T.Local.view c.operated.new.local) _
    c.loop-o-test.true c.o-item.is
    c.in_err-left.ensures
    c.loop-o.invariant)

pub operands-returns : goal.operands-returns
operands-returns g t c = leads_ends (operand_step (reading c.args.s) (calls_within (reading c.args.s) c.args.depth) c.args.frame.now) (each (operand_step (reading c.args.s) (calls_within (reading c.args.s) c.args.depth) c.args.frame.now) c.args.first c.args.others.now) (g.T.Local.view c.args.local.now) c.args.others.now c.loop-o.o-index c.loop-o.left (g.T.Local.view c.loop-o.local) c.loop-o-test.false c.loop-o.invariant

pub suffixed_all-loop-suffix-preserved : goal.suffixed_all-loop-suffix-preserved
suffixed_all-loop-suffix-preserved g t c =
    leads_more (suffixed (reading c.args.s) (calls_within (reading c.args.s) c.args.depth) c.args.frame.now) (each (suffixed (reading c.args.s) (calls_within (reading c.args.s) c.args.depth) c.args.frame.now) c.args.first c.args.suffixes.now) (g.T.Local.view c.args.local.now) c.args.suffixes.now c.loop-suffix.suffix-index c.suffix-item.result c.loop-suffix.t c.in_ok-t.t (g.T.Local.view c.loop-suffix.local) (g.T.Local.view c.suffixed.new.local)
    c.loop-suffix-test.true c.suffix-item.is
    c.in_ok-t.ensures
    c.loop-suffix.invariant

pub suffixed_all-returns-in_err-t : goal.suffixed_all-returns-in_err-t
suffixed_all-returns-in_err-t g t c =
    let p = err_from_is_err_and c.from_residual.result c.from_residual.ensures.1 in rw (p.1, p.2)
    (leads_stops (suffixed (reading c.args.s) (calls_within (reading c.args.s) c.args.depth) c.args.frame.now) (each (suffixed (reading c.args.s) (calls_within (reading c.args.s) c.args.depth) c.args.frame.now) c.args.first c.args.suffixes.now) (g.T.Local.view c.args.local.now) c.args.suffixes.now c.loop-suffix.suffix-index c.suffix-item.result c.loop-suffix.t _ (g.T.Local.view c.loop-suffix.local) (g.T.Local.view c.suffixed.new.local) _
    c.loop-suffix-test.true c.suffix-item.is
    c.in_err-t.ensures
    c.loop-suffix.invariant)

pub suffixed_all-returns : goal.suffixed_all-returns
suffixed_all-returns g t c = leads_ends (suffixed (reading c.args.s) (calls_within (reading c.args.s) c.args.depth) c.args.frame.now) (each (suffixed (reading c.args.s) (calls_within (reading c.args.s) c.args.depth) c.args.frame.now) c.args.first c.args.suffixes.now) (g.T.Local.view c.args.local.now) c.args.suffixes.now c.loop-suffix.suffix-index c.loop-suffix.t (g.T.Local.view c.loop-suffix.local) c.loop-suffix-test.false c.loop-suffix.invariant

pub values_of-loop-e-preserved : goal.values_of-loop-e-preserved
unfolding values_of
values_of-loop-e-preserved g t c =
    leads_more (value_step (reading c.args.s) (calls_within (reading c.args.s) c.args.depth) c.args.frame.now) (each (value_step (reading c.args.s) (calls_within (reading c.args.s) c.args.depth) c.args.frame.now) [] c.args.arguments.now) (g.T.Local.view c.args.local.now) c.args.arguments.now c.loop-e.e-index c.e-item.result c.loop-e.values c.push.new.self (g.T.Local.view c.loop-e.local) (g.T.Local.view c.value.new.local)
    c.loop-e-test.true c.e-item.is
    (value_added (reading c.args.s) (calls_within (reading c.args.s) c.args.depth) c.args.frame.now c.loop-e.values c.push.new.self c.e-item.result c.in_ok-t.t _ _ c.in_ok-t.ensures
    (c.in_ok-push.ensures.ok ∙ ap (λ x. c.loop-e.values ++ x ∷ []) c.value_in.ensures))
    c.loop-e.invariant

pub values_of-returns-in_err-t : goal.values_of-returns-in_err-t
unfolding values_of
values_of-returns-in_err-t g t c =
    let p = err_from_is_err_and c.from_residual.result c.from_residual.ensures.1 in rw (p.1, p.2)
    (leads_stops (value_step (reading c.args.s) (calls_within (reading c.args.s) c.args.depth) c.args.frame.now) (each (value_step (reading c.args.s) (calls_within (reading c.args.s) c.args.depth) c.args.frame.now) [] c.args.arguments.now) (g.T.Local.view c.args.local.now) c.args.arguments.now c.loop-e.e-index c.e-item.result c.loop-e.values _ (g.T.Local.view c.loop-e.local) (g.T.Local.view c.value.new.local) _
    c.loop-e-test.true c.e-item.is
    (value_not_added (reading c.args.s) (calls_within (reading c.args.s) c.args.depth) c.args.frame.now c.loop-e.values c.e-item.result _ _ _ _ c.in_err-t.ensures)
    c.loop-e.invariant)

pub values_of-returns : goal.values_of-returns
unfolding values_of
values_of-returns g t c = leads_ends (value_step (reading c.args.s) (calls_within (reading c.args.s) c.args.depth) c.args.frame.now) (each (value_step (reading c.args.s) (calls_within (reading c.args.s) c.args.depth) c.args.frame.now) [] c.args.arguments.now) (g.T.Local.view c.args.local.now) c.args.arguments.now c.loop-e.e-index c.loop-e.values (g.T.Local.view c.loop-e.local) c.loop-e-test.false c.loop-e.invariant

pub suffixed-returns-in_err-vs-in-Method : goal.suffixed-returns-in_err-vs-in-Method
suffixed-returns-in_err-vs-in-Method g t c =
    let p = err_from_is_err_and c.from_residual.result c.from_residual.ensures.1 in
    rw (p.1, p.2) (method_stops (reading c.args.s) (calls_within (reading c.args.s) c.args.depth) c.args.frame.now c.args.t.now c.args.suffix.now c.in-Method.name c.in-Method.arguments c.in-Method.span c.deref-in-Method.result.now _ _ _ _
    c.in-Method.is c.deref-in-Method.ensures c.in_err-vs-in-Method.ensures)

pub suffixed-returns-in_ok-vs-in-Method : goal.suffixed-returns-in_ok-vs-in-Method
suffixed-returns-in_ok-vs-in-Method g t c =
    method_does (reading c.args.s) (calls_within (reading c.args.s) c.args.depth) c.args.frame.now c.args.t.now c.args.suffix.now c.in-Method.name c.in-Method.arguments c.in-Method.span c.deref-in-Method.result.now c.deref-in-Method-2.result.now c.in_ok-vs-in-Method.vs c.method_call.result _ _ _
    c.in-Method.is c.deref-in-Method.ensures c.deref-in-Method-2.ensures c.in_ok-vs-in-Method.ensures
    (subst (λ (x : Thing). DoesAs itself (method_call (reading c.args.s) x c.deref-in-Method-2.result.now c.in_ok-vs-in-Method.vs) c.method_call.result (g.T.Local.view c.values_of.new.local) (g.T.Local.view c.method_call.new.local))
    c.replace-receiver.ensures.value c.method_call.ensures)

pub value-returns-in_err-t-in-Operation : goal.value-returns-in_err-t-in-Operation
value-returns-in_err-t-in-Operation g t c =
    let p = err_from_is_err_and c.from_residual.result c.from_residual.ensures.1 in
    rw (p.1, p.2) (operation_stops (reading c.args.s) (calls_within (reading c.args.s) c.args.depth) c.args.frame.now c.args.e.now c.in-Operation.first c.get.result.now c.in-Operation.others c.in-Operation.span _ _ _ _ c.in-Operation.is c.get.ensures c.in_err-t-in-Operation.ensures)

pub value-returns-in_ok-t-in-Operation : goal.value-returns-in_ok-t-in-Operation
value-returns-in_ok-t-in-Operation g t c =
    operation_does (reading c.args.s) (calls_within (reading c.args.s) c.args.depth) c.args.frame.now c.args.e.now c.in-Operation.first c.get.result.now c.in-Operation.others c.deref.result.now c.in-Operation.span c.in_ok-t-in-Operation.t c.value_in.result c.operation.result _ _ _
    c.in-Operation.is c.get.ensures c.deref.ensures c.in_ok-t-in-Operation.ensures c.value_in.ensures c.operation.ensures

pub value-returns-in_err-t-in-Postfix : goal.value-returns-in_err-t-in-Postfix
value-returns-in_err-t-in-Postfix g t c =
    let p = err_from_is_err_and c.from_residual-in_err-t-in-Postfix.result c.from_residual-in_err-t-in-Postfix.ensures.1 in
    rw (p.1, p.2) (postfix_stops (reading c.args.s) (calls_within (reading c.args.s) c.args.depth) c.args.frame.now c.args.e.now c.in-Postfix.inner c.get-in-Postfix.result.now c.in-Postfix.suffixes c.in-Postfix.span _ _ _ _ c.in-Postfix.is c.get-in-Postfix.ensures c.in_err-t-in-Postfix.ensures)

pub value-returns-in_ok-t-in-Postfix : goal.value-returns-in_ok-t-in-Postfix
value-returns-in_ok-t-in-Postfix g t c =
    postfix_does (reading c.args.s) (calls_within (reading c.args.s) c.args.depth) c.args.frame.now c.args.e.now c.in-Postfix.inner c.get-in-Postfix.result.now c.in-Postfix.suffixes c.deref-in-Postfix.result.now c.in-Postfix.span c.in_ok-t-in-Postfix.t c.suffixed_all.result _ _ _
    c.in-Postfix.is c.get-in-Postfix.ensures c.deref-in-Postfix.ensures c.in_ok-t-in-Postfix.ensures c.suffixed_all.ensures

pub value-returns-in-Not : goal.value-returns-in-Not
value-returns-in-Not g t c =
    operand_does (reading c.args.s) (calls_within (reading c.args.s) c.args.depth) c.args.frame.now c.args.e.now c.in-Not.operand c.get-in-Not.result.now c.unary_of-unary.result c.of_operand.result _ _ c.in-Not.is c.unary_of-unary.ensures c.get-in-Not.ensures c.of_operand.ensures

pub value-returns-in-Call : goal.value-returns-in-Call
value-returns-in-Call g t c =
    call_does (reading c.args.s) (calls_within (reading c.args.s) c.args.depth) c.args.frame.now c.args.e.now c.in-Call.name c.in-Call.arguments c.in-Call.span c.as_slice-items.result.now c.deref-in-Call.result.now c.called.result _ _
    c.in-Call.is c.as_slice-items.ensures c.deref-in-Call.ensures c.called.ensures

pub value-returns-in-Cast : goal.value-returns-in-Cast
value-returns-in-Cast g t c =
    inner_does (reading c.args.s) (calls_within (reading c.args.s) c.args.depth) c.args.frame.now c.args.e.now c.in-Cast.inner c.get-in-Cast.result.now c.value-in-Cast.result _ _ c.in-Cast.is c.get-in-Cast.ensures c.value-in-Cast.ensures

pub value-returns-in-Number : goal.value-returns-in-Number
value-returns-in-Number g t c =
    subst (λ (p : Acting Thing). DoesAs itself p c.leaf.result (g.T.Local.view c.args.local.now) (g.T.Local.view c.args.local.now)) (leaf_is (reading c.args.s) (calls_within (reading c.args.s) c.args.depth) c.args.frame.now c.args.e.now c.in-Number.is) c.leaf.ensures

pub of_operand-returns-in_err-t : goal.of_operand-returns-in_err-t
of_operand-returns-in_err-t g t c =
    let p = err_from_is_err_and c.from_residual.result c.from_residual.ensures.1 in rw (p.1, p.2) (then_stops _ _ _ _ _ _ _ _ c.in_err-t.ensures)

pub of_operand-returns : goal.of_operand-returns
of_operand-returns g t c = then_does _ _ _ _ _ _ _ _ _ c.in_ok-t.ensures c.thing_made.ensures

pub operation-returns-in_err-v : goal.operation-returns-in_err-v
operation-returns-in_err-v g t c =
    let p = err_from_is_err_and c.from_residual.result c.from_residual.ensures.1 in rw (p.1, p.2) (then_stops _ _ _ _ _ _ _ _ c.in_err-v.ensures)

pub operation-returns : goal.operation-returns
operation-returns g t c = then_does _ _ _ _ _ _ _ _ _ c.in_ok-v.ensures (does_ends_as _ _ _ _ refl)

pub called-returns-in_err-vs : goal.called-returns-in_err-vs
called-returns-in_err-vs g t c =
    let p = err_from_is_err_and c.from_residual.result c.from_residual.ensures.1 in rw (p.1, p.2) (then_stops _ _ _ _ _ _ _ _ c.in_err-vs.ensures)

pub called-returns : goal.called-returns
called-returns g t c = then_does _ _ _ _ _ _ _ _ _ c.in_ok-vs.ensures c.named_call.ensures

pub operated-returns-in-Some : goal.operated-returns-in-Some
unfolding operated
operated-returns-in-Some g t c = decided_does itself _ _ _ _ _ (sym c.settled.ensures ∙ c.in-Some.is) refl

pub operated-returns-in_err-t : goal.operated-returns-in_err-t
unfolding operated
operated-returns-in_err-t g t c =
    let p = err_from_is_err_and c.from_residual.result c.from_residual.ensures.1 in
    let none : settled c.args.o.now.operator c.args.left ≡ None = cc in
    rw (p.1, p.2) (undecided_does itself _ _ _ _ _ none (then_stops _ _ _ _ _ _ _ _ c.in_err-t.ensures))

pub operated-returns : goal.operated-returns
unfolding operated
operated-returns g t c =
    let none : settled c.args.o.now.operator c.args.left ≡ None = cc in
    undecided_does itself _ _ _ _ _ none (then_does _ _ _ _ _ _ _ _ _ c.in_ok-t.ensures
    (subst (λ (x : Value). DoesAs itself (given (joined c.args.o.now.operator c.args.left x)) c.joined_values.result (g.T.Local.view c.value.new.local) (g.T.Local.view c.value.new.local)) c.value_in.ensures c.joined_values.ensures))

pub suffixed-returns-in-Field : goal.suffixed-returns-in-Field
suffixed-returns-in-Field g t c =
    rw c.in-Field.is
    (subst (λ (text : List ℕ). DoesAs itself (field_in (reading c.args.s) text c.args.t.now) c.field_in.result (g.T.Local.view c.args.local.now) (g.T.Local.view c.args.local.now)) c.deref.ensures c.field_in.ensures)

pub suffixed-returns-in_err-k-in-Index : goal.suffixed-returns-in_err-k-in-Index
suffixed-returns-in_err-k-in-Index g t c =
    let p = err_from_is_err_and c.from_residual-in_err-k-in-Index.result c.from_residual-in_err-k-in-Index.ensures.1 in
    rw c.in-Index.is (rw (p.1, p.2) (then_stops _ _ _ _ _ _ _ _ c.in_err-k-in-Index.ensures))

pub suffixed-returns-in_ok-k-in-Index : goal.suffixed-returns-in_ok-k-in-Index
suffixed-returns-in_ok-k-in-Index g t c =
    rw c.in-Index.is (then_does _ _ _ _ _ _ _ _ _ c.in_ok-k-in-Index.ensures
    (subst (λ (x : Value). DoesAs itself (index (reading c.args.s) c.args.t.now x) c.index.result (g.T.Local.view c.value.new.local) (g.T.Local.view c.index.new.local)) c.value_in.ensures c.index.ensures))
