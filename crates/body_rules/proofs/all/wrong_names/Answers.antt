use Rattle.std.proofs.Common.{ap, ◌∙◌, sym, arith, flat_map}
use Rattle.std.proofs.lemmas.List.{take_all}
use Rattle.slicc_plan.specs.Prelude.{everywhere, wide_scopes, first_after}
use Rattle.slicc_plan.proofs.Firsts.{first_after-flat_map}
use Rattle.declared_types.specs.Prelude.{scope_at}
use Rattle.body_rules.specs.Prelude.{wrong_names_within}
use Rattle.body_rules.proofs.NameWalks.{all_same}
use Rattle.body_rules.proofs.all.wrong_names.Goals as goal

pub loop-number-preserved : goal.loop-number-preserved
loop-number-preserved c =
    let trees = c.args.scopes.now.trees.now in
    let f = wrong_names_within trees in
    c.in_ok-found.ensures ∙ ap (λ p. first_after p (f (scope_at trees c.loop-number.number))) c.loop-number.invariant
    ∙ sym (first_after-flat_map f (wide_scopes trees) c.loop-number.number everywhere c.args.first (omega arith))

pub returns : goal.returns
returns c =
    let trees = c.args.scopes.now.trees.now in
    c.loop-number.invariant
    ∙ ap (λ ss. first_after c.args.first (flat_map (wrong_names_within trees) ss)) (take_all c.loop-number.number (wide_scopes trees) (omega arith))
    ∙ ap (first_after c.args.first) (all_same trees)
