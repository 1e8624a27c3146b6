-- One token ahead decides in the table that makes outlines: the test of each form computes.
use Rattle.std.proofs.Common.{refl}
use Rattle.slicc_ast.specs.Prelude.{IsPredictive, file, member_end, functional_end, machine_name, declaration, declaration_end, named_end, body, transition_end, statement, statement_end, conditional, otherwise, expression, conjunction, equality, order, sum, product, unary, postfix, primary, constant, opening, name_end, arguments}
use Rattle.slicc_ast.specs.Form.Form.{item, enumeration, states, structure, member, pair, machine, parameter, literal, out_port, in_port, action, transition, names, formals, formal, block, suffix, balanced_part}
use Rattle.slicc_ast.proofs.Shapes.{shapes}
use Rattle.slicc_ast.proofs.Shapes.Step.{plain, value, mark}

pub shapes_decided : IsPredictive shapes
shapes_decided (plain file) = refl
shapes_decided (plain item) = refl
shapes_decided (plain enumeration) = refl
shapes_decided (plain states) = refl
shapes_decided (plain structure) = refl
shapes_decided (plain member) = refl
shapes_decided (plain member_end) = refl
shapes_decided (plain functional_end) = refl
shapes_decided (plain pair) = refl
shapes_decided (plain machine) = refl
shapes_decided (plain machine_name) = refl
shapes_decided (plain parameter) = refl
shapes_decided (plain literal) = refl
shapes_decided (plain declaration) = refl
shapes_decided (plain declaration_end) = refl
shapes_decided (plain named_end) = refl
shapes_decided (plain body) = refl
shapes_decided (plain out_port) = refl
shapes_decided (plain in_port) = refl
shapes_decided (plain action) = refl
shapes_decided (plain transition) = refl
shapes_decided (plain transition_end) = refl
shapes_decided (plain names) = refl
shapes_decided (plain formals) = refl
shapes_decided (plain formal) = refl
shapes_decided (plain block) = refl
shapes_decided (plain statement) = refl
shapes_decided (plain statement_end) = refl
shapes_decided (plain conditional) = refl
shapes_decided (plain otherwise) = refl
shapes_decided (plain expression) = refl
shapes_decided (plain conjunction) = refl
shapes_decided (plain equality) = refl
shapes_decided (plain order) = refl
shapes_decided (plain sum) = refl
shapes_decided (plain product) = refl
shapes_decided (plain unary) = refl
shapes_decided (plain postfix) = refl
shapes_decided (plain primary) = refl
shapes_decided (plain constant) = refl
shapes_decided (plain opening) = refl
shapes_decided (plain name_end) = refl
shapes_decided (plain suffix) = refl
shapes_decided (plain arguments) = refl
shapes_decided (plain balanced_part) = refl
shapes_decided value = refl
shapes_decided (mark m) = refl
