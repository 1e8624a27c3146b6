use Rattle.std.proofs.Common.{◌≡◌, ◌<◌, ◌∙◌, sym, ap, find, length, get_or, None, true, false, arith}
use Rattle.slicc_plan.specs.Prelude.{wide_scopes, everywhere}
use Rattle.call_types.specs.Prelude.{has_permissions, machines_in}
use Rattle.call_types.proofs.Machines.{machines_wide, found_further, not_found}
use Rattle.call_types.proofs.called.permission_named.Goals as goal

pub loop-number-init : goal.loop-number-init
loop-number-init c = ap (find (has_permissions c.args.text.now)) (sym (machines_wide c.args.scopes.now.trees.now))

pub loop-number-preserved : goal.loop-number-preserved
loop-number-preserved c =
    let below : c.loop-number.number < length (wide_scopes c.args.scopes.now.trees.now) = omega (arith, c.loop-number-test.true, c.len-number-end.ensures) in
    let none = not_found c.permission_of-found.result (sym c.is_some.ensures ∙ c.if-is_some.false) in
    c.loop-number.invariant ∙ found_further (has_permissions c.args.text.now) (wide_scopes c.args.scopes.now.trees.now) c.loop-number.number everywhere below
    (ap (λ s. find (has_permissions c.args.text.now) (machines_in s)) (sym c.scope.ensures) ∙ sym c.permission_of-found.ensures ∙ none)
