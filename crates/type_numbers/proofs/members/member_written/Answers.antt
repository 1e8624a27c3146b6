use Rattle.std.proofs.Common.{ap, sym, ◌∙◌}
use Rattle.slicc_plan.specs.Prelude.{member_written}
use Rattle.declared_types.specs.declared.lent.KnownType.{KnownType}
use Rattle.declared_types.specs.Prelude.{type_of}
use Rattle.type_numbers.specs.Prelude.{trees_of}
use Rattle.type_numbers.proofs.members.member_written.Goals as goal

pub returns-in-Enumeration-clause-number : goal.returns-in-Enumeration-clause-number
returns-in-Enumeration-clause-number c =
    c.symbol_number.ensures.number
    ∙ ap (λ (t : KnownType). member_written (trees_of c.args.types.now) c.args.text.now (type_of t) c.args.value.now) (sym c.in-Enumeration.is)

pub returns-in-States-clause-number : goal.returns-in-States-clause-number
returns-in-States-clause-number c =
    c.state_number.ensures.number
    ∙ ap (λ (t : KnownType). member_written (trees_of c.args.types.now) c.args.text.now (type_of t) c.args.value.now) (sym c.in-States.is)
