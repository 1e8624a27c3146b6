use Rattle.body_types.specs.Prelude.{environment_of, typed_of, wanted_of}
use Rattle.expression_types.proofs.Firsts.{joined_by_firsts}
use Rattle.expression_types.proofs.operators.joined.Goals as goal

pub returns : goal.returns
returns c =
    joined_by_firsts (environment_of c.args.env) c.args.operator c.args.left c.args.right (wanted_of c.wanted_left.result) (wanted_of c.wanted_right-wanted.result) _ c.unfit-unfit_left.result _ c.unfit-unfit_right.result _ c.operator_type.result (typed_of c.plain.result)
    c.earlier_of_two-first.ensures c.wanted_left.ensures c.unfit-unfit_left.ensures c.earlier_of_two-first-2.ensures
    c.wanted_right-wanted.ensures c.unfit-unfit_right.ensures c.earlier_of_two-first-3.ensures c.operator_type.ensures c.plain.ensures
