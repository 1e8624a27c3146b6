use Rattle.std.proofs.Common.{◌∙◌}
use Rattle.type_numbers.proofs.DefaultWords.{named_so, not_named}
use Rattle.type_numbers.proofs.members.is_default_name.Goals as goal

pub returns-in-None : goal.returns-in-None
returns-in-None c = not_named c.args.text.now c.args.own.now c.args.member.now c.in-None.ensures

pub returns-in-Some : goal.returns-in-Some
returns-in-Some c =
    c.eq.ensures ∙ named_so c.args.text.now c.args.own.now c.args.member.now c.in-Some.rest.now c.in-Some.ensures
