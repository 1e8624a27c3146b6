use Rattle.std.proofs.Common.{◌≡◌, ap, ◌∙◌, sym, flat_map}
use Rattle.slicc_plan.specs.Prelude.{declared_in, machine_declarations, within, transitions_of, first_after, missing_in, wrong_permissions}
use Rattle.declared_types.specs.Prelude.{scope_of, scope_at}
use Rattle.declaration_rules.proofs.Steps.{flat_map_same, one_list_before}
use Rattle.body_rules.specs.Prelude.{wrong_names_within, wrong_states}
use Rattle.body_rules.proofs.NameWalks.{few_within, states_same}
use Rattle.body_rules.proofs.all.judge_names.Goals as goal

pub missing_names-requires : goal.missing_names-requires
missing_names-requires c =
    few_within c.args.scopes.now.trees.now c.args.number c.in-Within.m.now c.requires (sym c.scope.ensures ∙ ap scope_of c.in-Within.is)

pub returns-in_ok-named-in-Within : goal.returns-in_ok-named-in-Within
returns-in_ok-named-in-Within c =
    let trees = c.args.scopes.now.trees.now in
    let m = c.in-Within.m.now in
    let first = c.args.first in
    let named = c.in_ok-named-in-Within.named in
    let at : scope_at trees c.args.number ≡ within m = sym c.scope.ensures ∙ ap scope_of c.in-Within.is in
    let judged : c.judge_permissions.result ≡ first_after named (flat_map (wrong_permissions trees m) (machine_declarations m)) =
    c.judge_permissions.ensures
    ∙ ap (λ s. first_after named (flat_map (wrong_states trees s) (declared_in trees s))) at
    ∙ ap (first_after named) (flat_map_same (wrong_states trees (within m)) (wrong_permissions trees m) (machine_declarations m) (states_same trees m)) in
    one_list_before first named c.judge_permissions.result (flat_map (missing_in m) (transitions_of m)) (flat_map (wrong_permissions trees m) (machine_declarations m)) c.in_ok-named-in-Within.ensures judged
    ∙ ap (λ s. first_after first (wrong_names_within trees s)) (sym at)
