use Rattle.body_types.specs.Prelude.{environment_of, typed_of, wanted_of}
use Rattle.expression_types.proofs.Firsts.{operand_by_firsts}
use Rattle.expression_types.proofs.operators.from_operand.Goals as goal

pub returns : goal.returns
returns c =
    operand_by_firsts (environment_of c.args.env) (wanted_of c.args.wanted) c.args.answered c.args.g c.unfit.result c.earlier_of_two-first.result (typed_of c.plain.result)
    c.unfit.ensures c.earlier_of_two-first.ensures c.plain.ensures
