use Rattle.std.proofs.Common.{sym, ◌∙◌}
use Rattle.slicc_plan.specs.Prelude.{is_default_of}
use Rattle.declared_types.specs.Prelude.{scope_of}
use Rattle.type_numbers.proofs.Lists.{position_map}
use Rattle.type_numbers.proofs.members.member_number.Goals as goal

pub returns-clause-number : goal.returns-clause-number
returns-clause-number g c =
    c.member_place.ensures.place ∙ sym (position_map (is_default_of (scope_of c.args.scope) c.args.own.now c.args.value.now) g.T.Named.text c.args.members.now)
