use Rattle.std.proofs.Common.{◌∙◌}
use Rattle.slicc_plan.specs.Prelude.{machine_names}
use Rattle.declared_types.specs.Prelude.{type_of}
use Rattle.declaration_rules.specs.Prelude.{members_in}
use Rattle.declaration_rules.proofs.DefaultNames.{machine_so, not_machine}
use Rattle.declaration_rules.proofs.members.is_machine_default.Goals as goal

pub returns-in-None : goal.returns-in-None
returns-in-None c = not_machine (members_in (machine_names c.args.scopes.now.trees.now) (type_of c.args.t)) c.args.text.now c.args.machine.now c.args.own.now c.in-None.ensures

pub returns-in-Some : goal.returns-in-Some
returns-in-Some c =
    c.is_default_name.ensures
    ∙ machine_so (members_in (machine_names c.args.scopes.now.trees.now) (type_of c.args.t)) c.args.text.now c.args.machine.now c.args.own.now c.in-Some.rest.now c.in-Some.ensures
