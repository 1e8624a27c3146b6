use Rattle.std.proofs.Common.{ap, ◌∙◌}
use Rattle.std.specs.Option.{option_copied}
use Rattle.slicc_plan.specs.declared.built_in.BuiltInType.TheVariants.{Void}
use Rattle.slicc_plan.specs.Prelude.{first_after, line_where, unlike}
use Rattle.slicc_plan.specs.StateFunctions.{built_in_type}
use Rattle.machine_rules.proofs.Taken.{permitted_taken}
use Rattle.machine_rules.proofs.state_rules.unlike_permitter.Goals as goal

pub returns : goal.returns
returns c =
    let m = c.args.m in
    c.unlike.ensures
    ∙ ap (λ ws. first_after c.args.first (unlike m.scopes.now.trees.now m.number m.machine.now (built_in_type Void) ws (option_copied c.args.function)))
    (permitted_taken c.line.result m.machine.now (c.line.ensures ∙ ap line_where c.requires.entry))
