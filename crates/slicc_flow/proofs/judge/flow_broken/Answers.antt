use Rattle.std.proofs.Common.{◌≡◌, ◌∙◌}
use Rattle.std.proofs.lemmas.Result.{IfOk-weaker}
use Rattle.slicc_plan.specs.Prelude.{first_after}
use Rattle.slicc_flow.specs.Prelude.{broken_flow}
use Rattle.slicc_flow.specs.Machines.{found_in}
use Rattle.slicc_flow.proofs.Judged.{broken_all, few_bodies}
use Rattle.slicc_flow.proofs.judge.flow_broken.Goals as goal

pub first_found-requires : goal.first_found-requires
first_found-requires c =
    few_bodies c.args.scopes.now.trees.now c.deref.result.now (c.deref.ensures ∙ c.in_ok-machines.ensures) c.requires

pub returns : goal.returns
returns c =
    IfOk-weaker c.first_found.result (λ r. r ≡ first_after c.args.first (found_in c.deref.result.now)) (λ r. r ≡ first_after c.args.first (broken_flow c.args.scopes.now.trees.now))
    (λ r after. broken_all c.args.scopes.now.trees.now c.deref.result.now c.args.first r (c.deref.ensures ∙ c.in_ok-machines.ensures) after)
    c.first_found.ensures
