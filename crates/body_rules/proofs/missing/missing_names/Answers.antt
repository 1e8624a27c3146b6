use Rattle.std.proofs.Common.{ap, ◌∙◌, flat_map}
use Rattle.slicc_plan.specs.Prelude.{transition_in, first_after}
use Rattle.body_rules.specs.Prelude.{missing_with}
use Rattle.body_rules.proofs.MissingNames.{transitions_same}
use Rattle.body_rules.proofs.missing.missing_names.Goals as goal

pub returns : goal.returns
returns c =
    let own = c.in_ok-own.own in
    c.judge_transitions.ensures
    ∙ ap (λ ds. first_after c.args.first (flat_map (missing_with own) (flat_map transition_in ds))) c.as_slice.ensures
    ∙ ap (first_after c.args.first) (transitions_same own c.args.m.now c.in_ok-own.ensures.states c.in_ok-own.ensures.events c.in_ok-own.ensures.actions)
