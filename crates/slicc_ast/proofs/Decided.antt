-- One token ahead decides in the grammar: the test of each form computes.
use Rattle.std.proofs.Common.{◌≡◌, true, refl, arith}
use Rattle.std.specs.List.{Contains}
use Rattle.slicc_ast.specs.Prelude.{is_predictive, IsPredictive, Form, all_forms, file, member_end, functional_end, machine_name, declaration, declaration_end, named_end, body, transition_end, statement, statement_end, conditional, otherwise, expression, conjunction, equality, order, sum, product, unary, postfix, primary, constant, opening, name_end, arguments, table}
use Rattle.slicc_ast.specs.Form.Form.{item, enumeration, states, structure, member, pair, machine, parameter, literal, out_port, in_port, action, transition, names, formals, formal, block, suffix, balanced_part}

pub one_token_decides : IsPredictive table
one_token_decides file = refl
one_token_decides item = refl
one_token_decides enumeration = refl
one_token_decides states = refl
one_token_decides structure = refl
one_token_decides member = refl
one_token_decides member_end = refl
one_token_decides functional_end = refl
one_token_decides pair = refl
one_token_decides machine = refl
one_token_decides machine_name = refl
one_token_decides parameter = refl
one_token_decides literal = refl
one_token_decides declaration = refl
one_token_decides declaration_end = refl
one_token_decides named_end = refl
one_token_decides body = refl
one_token_decides out_port = refl
one_token_decides in_port = refl
one_token_decides action = refl
one_token_decides transition = refl
one_token_decides transition_end = refl
one_token_decides names = refl
one_token_decides formals = refl
one_token_decides formal = refl
one_token_decides block = refl
one_token_decides statement = refl
one_token_decides statement_end = refl
one_token_decides conditional = refl
one_token_decides otherwise = refl
one_token_decides expression = refl
one_token_decides conjunction = refl
one_token_decides equality = refl
one_token_decides order = refl
one_token_decides sum = refl
one_token_decides product = refl
one_token_decides unary = refl
one_token_decides postfix = refl
one_token_decides primary = refl
one_token_decides constant = refl
one_token_decides opening = refl
one_token_decides name_end = refl
one_token_decides suffix = refl
one_token_decides arguments = refl
one_token_decides balanced_part = refl

pub by_computation : is_predictive table all_forms ≡ true
by_computation = refl

pub has_all : (n : Form) → Contains all_forms n
has_all file = (0, omega arith, refl)
has_all item = (1, omega arith, refl)
has_all enumeration = (2, omega arith, refl)
has_all states = (3, omega arith, refl)
has_all structure = (4, omega arith, refl)
has_all member = (5, omega arith, refl)
has_all member_end = (6, omega arith, refl)
has_all functional_end = (7, omega arith, refl)
has_all pair = (8, omega arith, refl)
has_all machine = (9, omega arith, refl)
has_all machine_name = (10, omega arith, refl)
has_all parameter = (11, omega arith, refl)
has_all literal = (12, omega arith, refl)
has_all declaration = (13, omega arith, refl)
has_all declaration_end = (14, omega arith, refl)
has_all named_end = (15, omega arith, refl)
has_all body = (16, omega arith, refl)
has_all out_port = (17, omega arith, refl)
has_all in_port = (18, omega arith, refl)
has_all action = (19, omega arith, refl)
has_all transition = (20, omega arith, refl)
has_all transition_end = (21, omega arith, refl)
has_all names = (22, omega arith, refl)
has_all formals = (23, omega arith, refl)
has_all formal = (24, omega arith, refl)
has_all block = (25, omega arith, refl)
has_all statement = (26, omega arith, refl)
has_all statement_end = (27, omega arith, refl)
has_all conditional = (28, omega arith, refl)
has_all otherwise = (29, omega arith, refl)
has_all expression = (30, omega arith, refl)
has_all conjunction = (31, omega arith, refl)
has_all equality = (32, omega arith, refl)
has_all order = (33, omega arith, refl)
has_all sum = (34, omega arith, refl)
has_all product = (35, omega arith, refl)
has_all unary = (36, omega arith, refl)
has_all postfix = (37, omega arith, refl)
has_all primary = (38, omega arith, refl)
has_all constant = (39, omega arith, refl)
has_all opening = (40, omega arith, refl)
has_all name_end = (41, omega arith, refl)
has_all suffix = (42, omega arith, refl)
has_all arguments = (43, omega arith, refl)
has_all balanced_part = (44, omega arith, refl)
