use Rattle.std.proofs.Common.{◌≡◌}
use Rattle.std.proofs.lemmas.Result.{IfOk-weaker}
use Rattle.slicc_flow.specs.Prelude.{bodies_in, bodies_with}
use Rattle.slicc_flow.proofs.Judged.{placed}
use Rattle.slicc_flow.proofs.machine.machine_bodies.Goals as goal

pub returns : goal.returns
returns c =
    IfOk-weaker c.bodies_by.result (λ r. r ≡ bodies_with c.in_ok-names.names c.args.m.now) (λ r. r ≡ bodies_in c.args.scopes.now.trees.now c.args.m.now)
    (λ r after. placed c.args.scopes.now.trees.now c.args.m.now c.in_ok-names.names r c.in_ok-names.ensures.names after)
    c.bodies_by.ensures
