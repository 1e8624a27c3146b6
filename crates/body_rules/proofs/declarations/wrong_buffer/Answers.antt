use Rattle.std.proofs.Common.{◌≡◌, List, ap, map, reverse, ◌∙◌}
use Rattle.slicc_plan.specs.declared.built_in.BuiltInType.TheVariants.{Buffer}
use Rattle.slicc_plan.specs.Prelude.{environment, port_environment, Environment, of_port, wrong_value_name, table_of, first_of}
use Rattle.slicc_plan.specs.Meanings.{nothing}
use Rattle.body_types.specs.declared.environment.Bound.{Bound}
use Rattle.body_types.specs.Prelude.{bound_of, environment_of}
use Rattle.body_rules.proofs.declarations.wrong_buffer.Goals as goal

pub returns : goal.returns
returns c =
    let trees = c.args.m.scopes.now.trees.now in
    let m = c.args.m.lines.machine.now in
    let env = c.bare_environment-env.result in
    let same : environment_of env ≡ port_environment trees m =
    c.bare_environment-env.ensures.is env.bound.now
    ∙ ap (λ (bs : List Bound). environment trees m of_port nothing (reverse (map bound_of bs))) c.bare_environment-env.ensures.none in
    c.wrong_value_name.ensures ∙ ap (λ (e : Environment). first_of (wrong_value_name e (table_of Buffer) c.args.buffer.now)) same
