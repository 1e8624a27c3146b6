use Rattle.std.proofs.Common.{◌≡◌, IfOk, [], sym, subst}
use Rattle.slicc_plan.specs.Prelude.{built_in_call, plain}
use Rattle.slicc_plan.specs.Meanings.{nothing}
use Rattle.body_types.specs.declared.typed.Typed.{Typed}
use Rattle.body_types.specs.Prelude.{environment_of, all_given_of, found_of, typed_of}
use Rattle.call_types.specs.Prelude.{call_for}
use Rattle.call_types.proofs.declared.undeclared_call.Goals as goal

pub returns-in-BuiltIn : goal.returns-in-BuiltIn
returns-in-BuiltIn c =
    subst (λ v. IfOk c.built_in_call.result (λ (t : Typed). found_of (typed_of t) ≡ found_of (built_in_call (environment_of c.args.env) c.args.at (plain nothing []) (call_for v) (all_given_of c.args.given.now)))) (sym c.in-BuiltIn.is) c.built_in_call.ensures
