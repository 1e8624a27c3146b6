use Rattle.std.proofs.Common.{◌+◌, ◌<◌, ◌||◌, ◌∙◌, ap, arith, drop, length, sym}
use Rattle.std.specs.List.{flat_map, list_any}
use Rattle.slicc_plan.specs.Prelude.{everywhere, wide_scopes}
use Rattle.call_types.specs.Prelude.{machines_in}
use Rattle.expression_types.specs.Prelude.{is_called}
use Rattle.expression_types.proofs.Machines.{among_machines, not_here}
use Rattle.expression_types.proofs.members.has_machine.Goals as goal

pub loop-number-init : goal.loop-number-init
loop-number-init c = among_machines c.args.text.now c.args.scopes.now.trees.now

pub loop-number-preserved : goal.loop-number-preserved
loop-number-preserved c =
    let wide = wide_scopes c.args.scopes.now.trees.now in
    let below : c.loop-number.number < length wide = omega (arith, c.loop-number-test.true, c.len-number-end.ensures) in
    c.loop-number.invariant ∙ not_here c.args.text.now wide c.loop-number.number everywhere below
    ∙ ap (λ b. b || list_any (is_called c.args.text.now) (flat_map machines_in (drop (c.loop-number.number + 1) wide)))
    (ap (λ s. list_any (is_called c.args.text.now) (machines_in s)) (sym c.scope.ensures) ∙ sym c.is_machine.ensures ∙ c.if-is_machine.false)
