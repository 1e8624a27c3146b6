use Rattle.std.proofs.Common.{◌++◌, []}
use Rattle.slicc_plan.specs.Prelude.{in_each, all_ports, differing_after, doubled_in, wrong_ports_in}
use Rattle.declaration_rules.proofs.Steps.{one_list_before}
use Rattle.machine_rules.proofs.Walks.{told_last}
use Rattle.machine_rules.proofs.network_rules.networks.Goals as goal

pub returns : goal.returns
returns c =
    let trees = c.args.scopes.now.trees.now in
    let differing = differing_after [] (all_ports trees) in
    let wrong = in_each (wrong_ports_in trees) trees in
    told_last c.first_in_machines-2.result c.args.first c.in_ok-ported.ported (differing ++ wrong) (in_each (doubled_in trees) trees)
    (one_list_before c.args.first c.in_ok-typed.typed c.in_ok-ported.ported differing wrong c.in_ok-typed.ensures c.in_ok-ported.ensures) c.first_in_machines-2.ensures
