use Rattle.declared_types.specs.Prelude.{call_of}
use Rattle.body_types.specs.Prelude.{environment_of, all_given_of, typed_of}
use Rattle.call_types.proofs.Steps.{first_of_call, found_plain}
use Rattle.std.proofs.Common.{◌∙◌, ap}
use Rattle.slicc_plan.specs.Prelude.{built_in_call, first_of, unless}
use Rattle.slicc_plan.specs.declared.broken.Rule.TheVariants.{NotAllowedHere}
use Rattle.call_types.proofs.methods.built_in_call.Goals as goal

pub returns : goal.returns
returns c =
    found_plain (typed_of c.plain.result) _ _ _
    (built_in_call (environment_of c.args.env) c.args.at (typed_of c.args.on) (call_of c.args.c.now) (all_given_of c.args.given.now)).broken c.plain.ensures c.answer_of.ensures
    (first_of_call (environment_of c.args.env) c.args.at c.args.on (call_of c.args.c.now) (all_given_of c.args.given.now) c.unless-allowed.result _ _ _ _
    (c.unless-allowed.ensures ∙ ap (λ b. first_of (unless b NotAllowedHere c.args.at)) c.is_allowed.ensures)
    c.earlier_of_two-first.ensures c.in_ok-first.ensures c.wrong_change.ensures c.earlier_of_two-first-2.ensures)
