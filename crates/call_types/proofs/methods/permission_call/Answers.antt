use Rattle.std.proofs.Common.{◌∷◌, [], None, ap, refl}
use Rattle.slicc_plan.specs.Prelude.{permission_reading, built_in_call, plain, one_of}
use Rattle.slicc_plan.specs.Meanings.{nothing}
use Rattle.body_types.specs.declared.meaning.Wanted.TheVariants.{OneOf}
use Rattle.body_types.specs.Prelude.{environment_of, all_given_of, typed_of}
use Rattle.call_types.proofs.Steps.{first_of_permission, found_plain}
use Rattle.call_types.proofs.methods.permission_call.Goals as goal

pub returns : goal.returns
returns c =
    found_plain (typed_of c.plain.result) _ _ _
    (built_in_call (environment_of c.args.env) c.args.at (plain nothing []) (permission_reading c.args.m.now) (all_given_of c.args.given.now)).broken c.plain.ensures refl
    (first_of_permission (environment_of c.args.env) c.args.at c.args.m.now (OneOf None c.states_type.result ∷ []) c.args.given.now c.checked-first.result (ap (λ ts. one_of ts ∷ []) c.states_type.ensures) c.checked-first.ensures)
