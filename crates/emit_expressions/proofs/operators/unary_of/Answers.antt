use Rattle.slicc_ast.proofs.Boxes.{Not_is, Negate_is, IsValid_is}
use Rattle.emit_expressions.proofs.operators.unary_of.Goals as goal

pub returns-in-Not : goal.returns-in-Not
returns-in-Not c = rw (c.in-Not.is, Not_is)

pub returns-in-Negate : goal.returns-in-Negate
returns-in-Negate c = rw (c.in-Negate.is, Negate_is)

pub returns-in-IsValid : goal.returns-in-IsValid
returns-in-IsValid c = rw (c.in-IsValid.is, IsValid_is)
