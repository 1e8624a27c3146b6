use Rattle.std.proofs.Common.{◌∙◌, ap}
use Rattle.slicc_flow.specs.Prelude.{all_bodies}
use Rattle.slicc_flow.proofs.Flowed.{is_broken, is_flow}
use Rattle.slicc_flow.proofs.Judged.{few_bodies}
use Rattle.slicc_flow.proofs.protocol.flow_or_broken.Goals as goal

pub first_found-requires : goal.first_found-requires
first_found-requires c =
    few_bodies c.args.trees.now c.deref.result.now (c.deref.ensures ∙ c.in_ok-machines.ensures ∙ ap all_bodies c.in_ok-scopes.ensures) c.requires

pub returns-in-Some : goal.returns-in-Some
returns-in-Some c =
    is_broken c.args.trees.now c.in_ok-scopes.scopes.trees.now c.in_ok-machines.machines c.deref.result.now c.in_ok-b.field-0 c.in-Some.b
    c.in_ok-scopes.ensures c.in_ok-machines.ensures c.deref.ensures c.in_ok-b.ensures c.in-Some.is

pub returns : goal.returns
returns c =
    is_flow c.args.trees.now c.in_ok-scopes.scopes.trees.now c.in_ok-machines.machines c.deref.result.now c.in_ok-b.field-0 c.of.result
    c.in_ok-scopes.ensures c.in_ok-machines.ensures c.deref.ensures c.in_ok-b.ensures c.in-None.is c.of.ensures
