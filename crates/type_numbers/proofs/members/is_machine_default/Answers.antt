use Rattle.std.proofs.Common.{◌∙◌}
use Rattle.type_numbers.proofs.DefaultWords.{machine_so, not_machine}
use Rattle.type_numbers.proofs.members.is_machine_default.Goals as goal

pub returns-in-None : goal.returns-in-None
returns-in-None c = not_machine c.args.text.now c.args.machine.now c.args.own.now c.args.member.now c.in-None.ensures

pub returns-in-Some : goal.returns-in-Some
returns-in-Some c =
    c.is_default_name.ensures
    ∙ machine_so c.args.text.now c.args.machine.now c.args.own.now c.args.member.now c.in-Some.rest.now c.in-Some.ensures
