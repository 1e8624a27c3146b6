use Rattle.std.proofs.Common.{◌∙◌, ap}
use Rattle.slicc_plan.specs.Prelude.{function_call, answer_of_type, type_in}
use Rattle.body_types.specs.Prelude.{environment_of, all_given_of, typed_of}
use Rattle.call_types.proofs.Steps.{counted_formals, found_plain}
use Rattle.call_types.proofs.declared.function_call.Goals as goal

pub returns : goal.returns
returns c =
    found_plain (typed_of c.plain.result) _ _ _
    (function_call (environment_of c.args.env) c.args.at c.args.kind.now c.args.formals.now (all_given_of c.args.given.now)).broken c.plain.ensures
    (c.answer_of_type.ensures ∙ ap (answer_of_type c.args.env.lines.machine.now) (c.type_in-t.ensures ∙ ap (λ s. type_in c.args.env.scopes.now.trees.now s c.args.kind.now) c.requires.scope))
    (counted_formals (environment_of c.args.env) c.args.at _ _ _ _ c.args.formals.now c.args.given.now c.checked-first.result c.new-wanted.ensures c.in_ok-add_formals.ensures c.len.ensures c.deref.ensures c.checked-first.ensures)
