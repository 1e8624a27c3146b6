use Rattle.std.proofs.Common.{sym, ◌∙◌}
use Rattle.slicc_plan.specs.Prelude.{declares}
use Rattle.declared_types.specs.Prelude.{type_of}
use Rattle.type_numbers.specs.declared.numbering.Scoped.{Scoped}
use Rattle.type_numbers.specs.Prelude.{scoped_of}
use Rattle.type_numbers.proofs.Lists.{position_map, position_within}
use Rattle.type_numbers.proofs.numbers.place_among.Goals as goal

pub returns-clause-place : goal.returns-clause-place
returns-clause-place c = c.first_declaring.ensures ∙ sym (position_map (declares (type_of c.args.t)) scoped_of c.args.list.now)

pub returns-clause-within : goal.returns-clause-within
returns-clause-within c =
    position_within (λ (d : Scoped). declares (type_of c.args.t) (scoped_of d)) c.args.list.now c.first_declaring.result c.first_declaring.ensures
