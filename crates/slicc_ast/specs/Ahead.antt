-- What each form of the grammar begins with, and with what it could go on where it may end.
use Rattle.std.specs.Prelude.{ℕ, List, [], ◌∷◌, ◌++◌, map}
use Rattle.slicc_ast.specs.declared.tree.token.Word.TheVariants.{Protocol, Include, Machine, Enumeration, StateDeclaration, Structure, InPort, OutPort, Action, Transition, Peek, Enqueue, StallAndWait, CheckAllocate, If, Else, Return, True, False, Ood, New, IsValid, IsInvalid, StaticCast, Error, Assert, Dprintf, AppendTransitionComment}
use Rattle.slicc_ast.specs.declared.tree.token.Sign.TheVariants.{OpenBrace, OpenParenthesis, OpenBracket, Semicolon, Colon, Comma, Dot, Equals, Assign, Equal, Unequal, Less, Greater, LessOrEqual, GreaterOrEqual, Plus, Minus, Star, Not, And, Or}
use Rattle.slicc_ast.specs.Form.{Form}
use Rattle.slicc_ast.specs.Form.Form.{file, item, enumeration, states, structure, member, member_end, functional_end, pair, machine, machine_name, parameter, literal, declaration, declaration_end, named_end, body, out_port, in_port, action, transition, transition_end, names, formals, formal, block, statement, statement_end, conditional, otherwise, expression, conjunction, equality, order, sum, product, unary, postfix, primary, constant, opening, name_end, suffix, arguments, balanced_part}
use Rattle.slicc_ast.specs.TokenKinds.{number, quoted, word_kind, sign_kind}
use Rattle.slicc_ast.specs.Parts.{names_of, unbracketed}

-- the kinds of the tokens that a primary expression, and one with a sign before it, begins with, a name aside
abbrev pub first_of_constant : List ℕ
first_of_constant =
    number ∷ map word_kind (True ∷ False ∷ Ood ∷ New ∷ IsValid ∷ IsInvalid ∷ StaticCast ∷ []) ++ sign_kind OpenParenthesis ∷ []

abbrev pub first_of_opening : List ℕ
first_of_opening = sign_kind Not ∷ sign_kind Minus ∷ first_of_constant

abbrev pub first_of_expression : List ℕ
first_of_expression = names_of ++ first_of_opening

abbrev pub first_of_form : Form → List ℕ
first_of_form file = map word_kind (Protocol ∷ Include ∷ Enumeration ∷ Structure ∷ Machine ∷ [])
first_of_form item = map word_kind (Include ∷ Enumeration ∷ Structure ∷ Machine ∷ [])
first_of_form enumeration = word_kind Enumeration ∷ []
first_of_form states = word_kind StateDeclaration ∷ []
first_of_form structure = word_kind Structure ∷ []
first_of_form member = names_of
first_of_form member_end = names_of
first_of_form functional_end = map sign_kind (Comma ∷ Semicolon ∷ OpenParenthesis ∷ [])
first_of_form pair = names_of ++ quoted ∷ []
first_of_form machine = word_kind Machine ∷ []
first_of_form machine_name = names_of
first_of_form parameter = names_of
first_of_form literal = number ∷ sign_kind Minus ∷ quoted ∷ map word_kind (True ∷ False ∷ [])
first_of_form declaration = names_of ++ map word_kind (StateDeclaration ∷ Enumeration ∷ Structure ∷ OutPort ∷ InPort ∷ Action ∷ Transition ∷ [])
first_of_form declaration_end = sign_kind Star ∷ names_of
first_of_form named_end = map sign_kind (Comma ∷ Semicolon ∷ OpenParenthesis ∷ [])
first_of_form body = map sign_kind (OpenBrace ∷ Semicolon ∷ [])
first_of_form out_port = word_kind OutPort ∷ []
first_of_form in_port = word_kind InPort ∷ []
first_of_form action = word_kind Action ∷ []
first_of_form transition = word_kind Transition ∷ []
first_of_form transition_end = names_of ++ quoted ∷ sign_kind Star ∷ []
first_of_form names = names_of ++ sign_kind OpenBrace ∷ []
first_of_form formals = names_of
first_of_form formal = names_of
first_of_form block = sign_kind OpenBrace ∷ []
first_of_form statement = first_of_expression ++ map word_kind (Return ∷ If ∷ Peek ∷ Enqueue ∷ StallAndWait ∷ CheckAllocate ∷ Error ∷ Assert ∷ Dprintf ∷ AppendTransitionComment ∷ [])
first_of_form statement_end = names_of ++ map sign_kind (Colon ∷ OpenParenthesis ∷ Dot ∷ OpenBracket ∷ Star ∷ Plus ∷ Minus ∷ Less ∷ Greater ∷ LessOrEqual ∷ GreaterOrEqual ∷ Equal ∷ Unequal ∷ And ∷ Or ∷ Assign ∷ Semicolon ∷ [])
first_of_form conditional = word_kind If ∷ []
first_of_form otherwise = word_kind If ∷ sign_kind OpenBrace ∷ []
first_of_form expression = first_of_expression
first_of_form conjunction = first_of_expression
first_of_form equality = first_of_expression
first_of_form order = first_of_expression
first_of_form sum = first_of_expression
first_of_form product = first_of_expression
first_of_form unary = first_of_expression
first_of_form postfix = names_of ++ first_of_constant
first_of_form primary = names_of ++ first_of_constant
first_of_form opening = first_of_opening
first_of_form constant = first_of_constant
first_of_form name_end = map sign_kind (Colon ∷ OpenParenthesis ∷ [])
first_of_form suffix = map sign_kind (Dot ∷ OpenBracket ∷ [])
first_of_form arguments = first_of_expression
first_of_form balanced_part = unbracketed ++ map sign_kind (OpenParenthesis ∷ OpenBracket ∷ OpenBrace ∷ [])

-- with what an expression of a level could go on where it may end
abbrev pub further_of_unary : List ℕ
further_of_unary = map sign_kind (Colon ∷ OpenParenthesis ∷ Dot ∷ OpenBracket ∷ [])

abbrev pub further_of_product : List ℕ
further_of_product = sign_kind Star ∷ further_of_unary

abbrev pub further_of_sum : List ℕ
further_of_sum = map sign_kind (Plus ∷ Minus ∷ []) ++ further_of_product

abbrev pub further_of_order : List ℕ
further_of_order = map sign_kind (Less ∷ Greater ∷ LessOrEqual ∷ GreaterOrEqual ∷ []) ++ further_of_sum

abbrev pub further_of_equality : List ℕ
further_of_equality = map sign_kind (Equal ∷ Unequal ∷ []) ++ further_of_order

abbrev pub further_of_conjunction : List ℕ
further_of_conjunction = sign_kind And ∷ further_of_equality

abbrev pub further_of_expression : List ℕ
further_of_expression = sign_kind Or ∷ further_of_conjunction

abbrev pub further_of_form : Form → List ℕ
further_of_form machine_name = sign_kind Colon ∷ []
further_of_form transition_end = sign_kind Equals ∷ sign_kind Comma ∷ []
further_of_form formals = sign_kind Comma ∷ sign_kind Star ∷ names_of
further_of_form formal = sign_kind Star ∷ names_of
further_of_form statement = word_kind Else ∷ []
further_of_form conditional = word_kind Else ∷ []
further_of_form otherwise = word_kind Else ∷ []
further_of_form expression = further_of_expression
further_of_form conjunction = further_of_conjunction
further_of_form equality = further_of_equality
further_of_form order = further_of_order
further_of_form sum = further_of_sum
further_of_form product = further_of_product
further_of_form unary = further_of_unary
further_of_form postfix = further_of_unary
further_of_form primary = map sign_kind (Colon ∷ OpenParenthesis ∷ [])
further_of_form opening = further_of_unary
further_of_form suffix = sign_kind OpenParenthesis ∷ []
further_of_form arguments = sign_kind Comma ∷ further_of_expression
further_of_form _ = []
