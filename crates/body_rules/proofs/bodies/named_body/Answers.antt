use Rattle.std.proofs.Common.{◌≡◌, IfOk, subst}
use Rattle.slicc_plan.specs.Prelude.{Environment, body_judged, first_of}
use Rattle.body_rules.proofs.bodies.named_body.Goals as goal

pub returns : goal.returns
returns c =
    subst (λ (e : Environment). IfOk c.body_judged.result (λ first. first ≡ first_of (body_judged e c.args.body.now)))
    (c.bare_environment.ensures.is c.args.names.now.items) c.body_judged.ensures
