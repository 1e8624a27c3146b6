use Rattle.std.proofs.Common.{◌<◌, length, arith, sym, ap, ◌∙◌}
use Rattle.declared_types.specs.Prelude.{scope_at}
use Rattle.slicc_plan.proofs.Firsts.{first_after-flat_map}
use Rattle.slicc_plan.specs.Prelude.{everywhere, wide_scopes, beyond_in_scope, first_after}
use Rattle.slicc_names.proofs.protocol.in_scopes.Goals as goal

pub loop-number-preserved : goal.loop-number-preserved
loop-number-preserved c =
    let below : c.loop-number.number < length (wide_scopes c.args.scopes.now.trees.now) = omega arith in
    c.in_scope-first.ensures
    ∙ ap (λ o. first_after o (beyond_in_scope c.args.scopes.now.trees.now (scope_at c.args.scopes.now.trees.now c.loop-number.number))) c.loop-number.invariant
    ∙ sym (first_after-flat_map (beyond_in_scope c.args.scopes.now.trees.now) (wide_scopes c.args.scopes.now.trees.now) c.loop-number.number everywhere c.args.first below)
