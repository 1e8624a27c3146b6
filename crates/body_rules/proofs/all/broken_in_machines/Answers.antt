use Rattle.std.proofs.Common.{None, ap, ◌∙◌, sym, arith, flat_map}
use Rattle.std.proofs.lemmas.List.{take_all}
use Rattle.slicc_plan.specs.Prelude.{everywhere, wide_scopes, first_after, first_of}
use Rattle.slicc_plan.proofs.Firsts.{first_after-flat_map}
use Rattle.declared_types.specs.Prelude.{scope_at}
use Rattle.body_rules.specs.Prelude.{broken_within}
use Rattle.body_rules.proofs.Walks.{all_within}
use Rattle.body_rules.proofs.all.broken_in_machines.Goals as goal

pub loop-number-preserved : goal.loop-number-preserved
loop-number-preserved c =
    let trees = c.args.scopes.now.trees.now in
    let f = broken_within trees in
    c.in_ok-found.ensures ∙ ap (λ p. first_after p (f (scope_at trees c.loop-number.number))) c.loop-number.invariant
    ∙ sym (first_after-flat_map f (wide_scopes trees) c.loop-number.number everywhere None (omega arith))

pub returns : goal.returns
returns c =
    let trees = c.args.scopes.now.trees.now in
    c.loop-number.invariant
    ∙ ap (λ ss. first_of (flat_map (broken_within trees) ss)) (take_all c.loop-number.number (wide_scopes trees) (omega arith))
    ∙ ap first_of (all_within trees)
