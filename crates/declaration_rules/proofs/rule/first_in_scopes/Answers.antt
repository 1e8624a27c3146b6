use Rattle.std.proofs.Common.{ap, ◌∙◌, sym, arith}
use Rattle.slicc_plan.specs.Prelude.{everywhere, wide_scopes, first_after}
use Rattle.slicc_plan.proofs.Firsts.{first_after-flat_map}
use Rattle.declared_types.specs.Prelude.{scope_at}
use Rattle.declaration_rules.specs.Prelude.{broken_in}
use Rattle.declaration_rules.proofs.rule.first_in_scopes.Goals as goal

pub loop-number-preserved : goal.loop-number-preserved
loop-number-preserved g c =
    let trees = c.args.scopes.now.trees.now in
    let f = broken_in g.R.DeclarationRule.broken_of trees in
    c.first_in_scope-first.ensures ∙ ap (λ p. first_after p (f (scope_at trees c.loop-number.number))) c.loop-number.invariant
    ∙ sym (first_after-flat_map f (wide_scopes trees) c.loop-number.number everywhere c.args.first (omega arith))
