use Rattle.body_types.specs.Prelude.{environment_of, wanted_of}
use Rattle.expression_types.proofs.Firsts.{where_by_firsts}
use Rattle.expression_types.proofs.expression.broken_where.Goals as goal

pub returns : goal.returns
returns c =
    where_by_firsts (environment_of c.args.env) (wanted_of c.args.wanted) c.args.e.now c.in_ok-t.t c.span_of.result c.unfit-then.result c.earlier_of_two.result
    c.in_ok-t.ensures c.span_of.ensures c.unfit-then.ensures c.earlier_of_two.ensures
