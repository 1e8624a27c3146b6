use denote.Param.Weighed.{at_most, most}
use Rattle.std.proofs.Common.{rules, IfOk, refl, ◌≡◌, ◌≤◌, ◌++◌, ◌∙◌, ap, sym, subst, flat_map, drop, take, codes, ◌+◌}
use Rattle.slicc_ast.specs.declared.tree.statement.If.{out-If}
use Rattle.slicc_ast.proofs.tree.statement.Stmt.TheLaws.{the_size}
use Rattle.slicc_ast.specs.declared.tree.statement.Stmt.TheViews.{the_lemmas}
use Rattle.slicc_plan.specs.declared.built_in.BuiltInType.TheVariants.{Bool}
use Rattle.slicc_plan.specs.Prelude.{Environment, binding, fixed, meaning_named, broken_where, span_of, typed, after, assigned, checked, declared, enqueued, if_judged, in_enqueue, in_peek, in_type, judged, out_type, peeked, returned, stalled, statements_judged, any_value, incoming_of_type, of_built_in, outgoing_of_type, earlier_of_both, first_of}
use Rattle.slicc_plan.proofs.Firsts.{first_of-append}
use Rattle.body_types.specs.Prelude.{environment_of, meaning_of}
use Rattle.statement_rules.specs.Prelude.{IsGrown, at, else_if_judged}
use Rattle.statement_rules.proofs.Rows.{if_none, if_some, judged_enqueue, judged_peek, told_form}
use Rattle.statement_rules.proofs.Steps.{block_names, grown_more, others_item, statements_item}
use Rattle.statement_rules.proofs.judging.+statements.Goals as goal

pub if_judged-arm_judged-requires : goal.if_judged-arm_judged-requires
if_judged-arm_judged-requires t c = (search (rules, the_lemmas), c.requires)

pub if_judged-others_judged-requires : goal.if_judged-others_judged-requires
if_judged-others_judged-requires t c = (search (rules, the_lemmas, c.deref.ensures), c.requires)

pub if_judged-returns-in-None-clause-first : goal.if_judged-returns-in-None-clause-first
if_judged-returns-in-None-clause-first t c =
    let names = c.args.bound.now.items in
    c.earlier_of_two-own.ensures ∙ ap (λ o. earlier_of_both o c.in_ok-others.others) c.earlier_of_two.ensures
    ∙ if_none (at c.args.env names) c.args.i.now c.in_ok-condition.condition c.in_ok-then.then c.in_ok-others.others c.in-None.is
    (c.in_ok-condition.ensures ∙ ap (λ e. first_of (broken_where e (of_built_in Bool) (out-If c.args.i.now).condition)) (c.with_names-here.ensures.is ∙ ap (λ xs. at c.args.env xs) c.as_slice.ensures.value))
    c.in_ok-then.ensures.first
    (c.in_ok-others.ensures.first ∙ ap (λ es. first_of (flat_map (else_if_judged (at c.args.env c.arm_judged.new.bound.items)) es)) c.deref.ensures
    ∙ ap (λ xs. first_of (flat_map (else_if_judged (at c.args.env xs)) (out-If c.args.i.now).others)) c.in_ok-then.ensures.kept)

pub if_judged-returns-in_ok-otherwise-in-Some-clause-first : goal.if_judged-returns-in_ok-otherwise-in-Some-clause-first
if_judged-returns-in_ok-otherwise-in-Some-clause-first t c =
    let names = c.args.bound.now.items in
    c.earlier_of_two-in-Some.ensures ∙ ap (λ o. earlier_of_both o c.in_ok-otherwise-in-Some.otherwise) (c.earlier_of_two-own.ensures ∙ ap (λ o. earlier_of_both o c.in_ok-others.others) c.earlier_of_two.ensures)
    ∙ if_some (at c.args.env names) c.args.i.now c.in-Some.block c.in_ok-condition.condition c.in_ok-then.then c.in_ok-others.others c.in_ok-otherwise-in-Some.otherwise c.in-Some.is
    (c.in_ok-condition.ensures ∙ ap (λ e. first_of (broken_where e (of_built_in Bool) (out-If c.args.i.now).condition)) (c.with_names-here.ensures.is ∙ ap (λ xs. at c.args.env xs) c.as_slice.ensures.value))
    c.in_ok-then.ensures.first
    (c.in_ok-others.ensures.first ∙ ap (λ es. first_of (flat_map (else_if_judged (at c.args.env c.arm_judged.new.bound.items)) es)) c.deref.ensures
    ∙ ap (λ xs. first_of (flat_map (else_if_judged (at c.args.env xs)) (out-If c.args.i.now).others)) c.in_ok-then.ensures.kept)
    (c.in_ok-otherwise-in-Some.ensures.first ∙ ap (λ ss. first_of (statements_judged (at c.args.env c.others_judged.new.bound.items) ss)) c.deref-in-Some.ensures
    ∙ ap (λ xs. first_of (statements_judged (at c.args.env xs) c.in-Some.block.statements)) (c.in_ok-others.ensures.kept ∙ c.in_ok-then.ensures.kept))

pub judged-returns-in_ok-then-in-Peek-clause-first : goal.judged-returns-in_ok-then-in-Peek-clause-first
judged-returns-in_ok-then-in-Peek-clause-first t c =
    let env : Environment = at c.args.env c.args.bound.now.items in
    let head = peeked env c.in-Peek.span c.in-Peek.port c.in-Peek.message in
    let held = statements_judged (in_peek env c.in-Peek.port) c.in-Peek.body.statements in
    let same : judged env c.args.s.now ≡ head ++ held = ap (judged env) c.in-Peek.is ∙ judged_peek env c.in-Peek.port c.in-Peek.message c.in-Peek.pairs c.in-Peek.body c.in-Peek.span in
    let here = c.with_names-here.ensures.is ∙ ap (λ xs. at c.args.env xs) c.as_slice.ensures.value in
    c.earlier_of_two.ensures
    ∙ ap (λ o. earlier_of_both o c.in_ok-then-in-Peek.then) (c.peeked-own.ensures ∙ ap (λ e. first_of (peeked e c.in-Peek.span c.in-Peek.port c.in-Peek.message)) here)
    ∙ ap (earlier_of_both (first_of head)) (c.in_ok-then-in-Peek.ensures.first
    ∙ ap (λ m. first_of (statements_judged (binding env (fixed (codes "in_msg") m)) c.in-Peek.body.statements)) (c.incoming-meaning.ensures ∙ ap (λ e. incoming_of_type (in_type (meaning_named e c.in-Peek.port.text))) here))
    ∙ sym (first_of-append head held) ∙ ap first_of (sym same)

pub judged-returns-in_ok-then-in-Enqueue-clause-first : goal.judged-returns-in_ok-then-in-Enqueue-clause-first
judged-returns-in_ok-then-in-Enqueue-clause-first t c =
    let env : Environment = at c.args.env c.args.bound.now.items in
    let head = enqueued env c.in-Enqueue.span c.in-Enqueue.port c.in-Enqueue.message c.in-Enqueue.latency in
    let held = statements_judged (in_enqueue env c.in-Enqueue.port) c.in-Enqueue.body.statements in
    let same : judged env c.args.s.now ≡ head ++ held = ap (judged env) c.in-Enqueue.is ∙ judged_enqueue env c.in-Enqueue.port c.in-Enqueue.message c.in-Enqueue.latency c.in-Enqueue.body c.in-Enqueue.span in
    let here = c.with_names-here.ensures.is ∙ ap (λ xs. at c.args.env xs) c.as_slice.ensures.value in
    c.earlier_of_two-in-Enqueue.ensures
    ∙ ap (λ o. earlier_of_both o c.in_ok-then-in-Enqueue.then) (c.in_ok-own-in-Enqueue.ensures
    ∙ ap (λ l. first_of (enqueued (environment_of c.with_names-here.result) c.in-Enqueue.span c.in-Enqueue.port c.in-Enqueue.message l)) c.as_ref-in-Enqueue.ensures.value
    ∙ ap (λ e. first_of (enqueued e c.in-Enqueue.span c.in-Enqueue.port c.in-Enqueue.message c.in-Enqueue.latency)) here)
    ∙ ap (earlier_of_both (first_of head)) (c.in_ok-then-in-Enqueue.ensures.first
    ∙ ap (λ m. first_of (statements_judged (binding env (fixed (codes "out_msg") m)) c.in-Enqueue.body.statements)) (c.outgoing-meaning.ensures ∙ ap (λ e. outgoing_of_type (out_type (meaning_named e c.in-Enqueue.port.text))) here))
    ∙ sym (first_of-append head held) ∙ ap first_of (sym same)

pub others_judged-loop-other-preserved : goal.others_judged-loop-other-preserved
others_judged-loop-other-preserved t c =
    let kept = c.loop-other.invariant.kept in
    record {
      found = c.earlier_of_two-first.ensures ∙ ap (λ o. earlier_of_both o c.in_ok-then.then) c.earlier_of_two.ensures
          ∙ others_item (at c.args.env c.args.bound.now.items) c.args.others.now c.loop-other.other-index c.other-item.result c.loop-other.first c.in_ok-condition.condition c.in_ok-then.then c.loop-other-test.true c.other-item.is
          (c.in_ok-condition.ensures ∙ ap (λ e. first_of (broken_where e (of_built_in Bool) c.other-item.result.condition)) (c.with_names-here.ensures.is ∙ ap (λ xs. at c.args.env xs) (c.as_slice.ensures.value ∙ kept)))
          (c.in_ok-then.ensures.first ∙ ap (λ ss. first_of (statements_judged (at c.args.env c.loop-other.bound.items) ss)) c.deref.ensures
          ∙ ap (λ xs. first_of (statements_judged (at c.args.env xs) c.other-item.result.then.statements)) kept)
          c.loop-other.invariant.found;
      kept = c.in_ok-then.ensures.kept ∙ kept;
    }

pub statements_judged-judged-requires : goal.statements_judged-judged-requires
statements_judged-judged-requires t c =
    let h = at_most the_size c.args.statements.now c.loop-s.s-index c.s-item.result c.loop-s-test.true in
    let within : the_size c.s-item.result ≤ most the_size c.args.statements.now = subst (λ s. the_size s ≤ most the_size c.args.statements.now) (sym c.s-item.is) h in
    (search (rules, within), c.requires)

pub statements_judged-loop-s-preserved : goal.statements_judged-loop-s-preserved
statements_judged-loop-s-preserved t c =
    let kept = c.in_ok-then.ensures.kept in
    let grown : IsGrown c.loop-s.bound.items c.bind_local.new.bound.items = subst (λ xs. IsGrown xs c.bind_local.new.bound.items) kept c.in_ok-bind_local.ensures.kept in
    record {
      found = ap (λ o. earlier_of_both o (first_of (statements_judged (at c.args.env c.bind_local.new.bound.items) (drop (c.loop-s.s-index + 1) c.args.statements.now)))) c.earlier_of_two-first.ensures
          ∙ statements_item (at c.args.env c.loop-s.bound.items) (at c.args.env c.bind_local.new.bound.items) c.args.statements.now c.loop-s.s-index c.s-item.result c.loop-s.first c.in_ok-then.then _ c.loop-s-test.true c.s-item.is
          c.in_ok-then.ensures.first
          (c.in_ok-bind_local.ensures.names ∙ ap (λ xs. after (at c.args.env xs) c.s-item.result) kept)
          c.loop-s.invariant.found;
      grown = grown_more c.args.bound.now.items c.loop-s.bound.items c.bind_local.new.bound.items c.loop-s.invariant.grown grown;
    }

pub judged-returns-in-Declare-clause-first : goal.judged-returns-in-Declare-clause-first
judged-returns-in-Declare-clause-first t c =
    let env : Environment = at c.args.env c.args.bound.now.items in
    let here : environment_of c.with_names-here.result ≡ env = c.with_names-here.ensures.is ∙ ap (λ xs. at c.args.env xs) c.as_slice.ensures.value in
    let w = c.in-Declare in
    told_form (λ e. declared e w.kind w.value) env (environment_of c.with_names-here.result) c.args.s.now _ c.declared.result c.declared.ensures here w.is refl

pub judged-returns-in-Assign-clause-first : goal.judged-returns-in-Assign-clause-first
judged-returns-in-Assign-clause-first t c =
    let env : Environment = at c.args.env c.args.bound.now.items in
    let here : environment_of c.with_names-here.result ≡ env = c.with_names-here.ensures.is ∙ ap (λ xs. at c.args.env xs) c.as_slice.ensures.value in
    let w = c.in-Assign in
    told_form (λ e. assigned e (span_of w.place) (typed e w.place) w.value) env (environment_of c.with_names-here.result) c.args.s.now _ c.assigned.result c.assigned.ensures here w.is refl

pub judged-returns-in-Evaluate-clause-first : goal.judged-returns-in-Evaluate-clause-first
judged-returns-in-Evaluate-clause-first t c =
    let env : Environment = at c.args.env c.args.bound.now.items in
    let here : environment_of c.with_names-here.result ≡ env = c.with_names-here.ensures.is ∙ ap (λ xs. at c.args.env xs) c.as_slice.ensures.value in
    let w = c.in-Evaluate in
    told_form (λ e. broken_where e any_value w.value) env (environment_of c.with_names-here.result) c.args.s.now _ c.evaluated.result c.evaluated.ensures here w.is refl

pub judged-returns-in-Return-clause-first : goal.judged-returns-in-Return-clause-first
judged-returns-in-Return-clause-first t c =
    let env : Environment = at c.args.env c.args.bound.now.items in
    let here : environment_of c.with_names-here.result ≡ env = c.with_names-here.ensures.is ∙ ap (λ xs. at c.args.env xs) c.as_slice.ensures.value in
    let w = c.in-Return in
    told_form (λ e. returned e w.value) env (environment_of c.with_names-here.result) c.args.s.now _ c.returned.result (subst (λ v. IfOk c.returned.result (λ first. first ≡ first_of (returned (environment_of c.with_names-here.result) v))) c.as_ref.ensures.value c.returned.ensures) here w.is refl

pub judged-returns-in-StallAndWait-clause-first : goal.judged-returns-in-StallAndWait-clause-first
judged-returns-in-StallAndWait-clause-first t c =
    let env : Environment = at c.args.env c.args.bound.now.items in
    let here : environment_of c.with_names-here.result ≡ env = c.with_names-here.ensures.is ∙ ap (λ xs. at c.args.env xs) c.as_slice.ensures.value in
    let w = c.in-StallAndWait in
    told_form (λ e. stalled e w.span w.port w.address) env (environment_of c.with_names-here.result) c.args.s.now _ c.stalled.result c.stalled.ensures here w.is refl

pub judged-returns-in-Assert-clause-first : goal.judged-returns-in-Assert-clause-first
judged-returns-in-Assert-clause-first t c =
    let env : Environment = at c.args.env c.args.bound.now.items in
    let here : environment_of c.with_names-here.result ≡ env = c.with_names-here.ensures.is ∙ ap (λ xs. at c.args.env xs) c.as_slice.ensures.value in
    let w = c.in-Assert in
    told_form (λ e. broken_where e (of_built_in Bool) w.condition) env (environment_of c.with_names-here.result) c.args.s.now _ c.broken_value.result c.broken_value.ensures here w.is refl

pub judged-returns-in-If-clause-first : goal.judged-returns-in-If-clause-first
judged-returns-in-If-clause-first t c =
    let env : Environment = at c.args.env c.args.bound.now.items in
    told_form (λ e. if_judged e c.in-If.i) env env c.args.s.now _ c.if_judged.result c.if_judged.ensures.first refl c.in-If.is refl

pub judged-returns-in-CheckAllocate-clause-first : goal.judged-returns-in-CheckAllocate-clause-first
judged-returns-in-CheckAllocate-clause-first t c =
    let env : Environment = at c.args.env c.args.bound.now.items in
    let here = c.with_names-here.ensures.is ∙ ap (λ xs. at c.args.env xs) c.as_slice.ensures.value in
    let w = c.in-CheckAllocate in
    c.checked.ensures ∙ ap (λ e. first_of (checked e w.span w.name)) here ∙ ap (λ s. first_of (judged env s)) (sym w.is)

pub block_judged-returns-clause-first : goal.block_judged-returns-clause-first
block_judged-returns-clause-first t c =
    let names = c.args.bound.now.items in
    c.in_ok-first.ensures.first ∙ ap (λ e. first_of (statements_judged e c.deref.result.now)) (block_names c.args.env names c.push.new.self.items _ c.in_ok-push.ensures.items)
    ∙ ap (λ ss. first_of (statements_judged (binding (at c.args.env names) (fixed c.args.name.now (meaning_of c.args.meaning))) ss)) c.deref.ensures
