use Rattle.std.proofs.Common.{◌≡◌, IfOk, List, ap, subst, sym, ◌∙◌}
use Rattle.slicc_plan.specs.declared.broken.Broken.{Broken}
use Rattle.slicc_plan.specs.Prelude.{broken_in_machine, within, first_after}
use Rattle.declared_types.specs.Prelude.{scope_of, scope_at}
use Rattle.body_rules.specs.Prelude.{broken_within}
use Rattle.body_rules.proofs.all.judge_scope.Goals as goal

pub machine_in-requires : goal.machine_in-requires
machine_in-requires c = sym c.scope.ensures ∙ ap scope_of c.in-Within.is

pub returns-in-Within : goal.returns-in-Within
returns-in-Within c =
    let trees = c.args.scopes.now.trees.now in
    let m = c.in-Within.machine.now in
    let at : scope_at trees c.args.number ≡ within m = sym c.scope.ensures ∙ ap scope_of c.in-Within.is in
    let same : broken_in_machine c.machine_in.result.scopes.now.trees.now c.machine_in.result.lines.machine.now ≡ broken_within trees (scope_at trees c.args.number) =
    ap (λ ts. broken_in_machine ts c.machine_in.result.lines.machine.now) c.machine_in.ensures.trees
    ∙ ap (broken_in_machine trees) c.machine_in.ensures.same ∙ ap (broken_within trees) (sym at) in
    subst (λ (bs : List Broken). IfOk c.judge_machine.result (λ found. found ≡ first_after c.args.first bs)) same c.judge_machine.ensures
