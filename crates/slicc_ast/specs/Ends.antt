-- The forms beside those of the grammar: what may stand behind what several alternatives of a form have in common.
use Rattle.std.specs.Prelude.{List, [], ◌∷◌}
use Rattle.slicc_ast.specs.declared.tree.token.Sign.TheVariants.{Equals, Minus, Not}
use Rattle.slicc_ast.specs.Grammar.{Row}
use Rattle.slicc_ast.specs.Form.{Form}
use Rattle.slicc_ast.specs.Form.Form.{member_end, functional_end, machine_name, declaration_end, named_end, body, transition_end, formals, block, statement_end, conditional, otherwise, expression, unary, constant, opening, name_end, suffix, arguments}
use Rattle.slicc_ast.specs.Parts.{◌▸◌, rows, of, optional, repeated, sign, name, plain_name, skipped_name, machine_type_name, other_than_machine_type, value, string, colon, semicolon, assign, star, parentheses, braces, prefixed, pairs, balanced, operators}

abbrev pub rows_behind : Form → List (Row Form)
rows_behind member_end =
    rows (
    plain_name ▸ optional (parentheses (optional (of formals))) ▸ pairs ▸ semicolon
    ∷ skipped_name ▸ of functional_end
    ∷ [])
rows_behind functional_end =
    rows (
    pairs ▸ semicolon
    ∷ parentheses balanced ▸ pairs ▸ braces balanced
    ∷ [])
rows_behind machine_name =
    rows (
    machine_type_name ▸ optional (colon ▸ name)
    ∷ other_than_machine_type
    ∷ [])
rows_behind declaration_end =
    rows (
    star ▸ name ▸ pairs ▸ semicolon
    ∷ plain_name ▸ of named_end
    ∷ skipped_name ▸ of functional_end
    ∷ [])
rows_behind named_end =
    rows (
    pairs ▸ semicolon
    ∷ parentheses (optional (of formals)) ▸ pairs ▸ of body
    ∷ [])
rows_behind transition_end =
    rows (
    name ▸ optional (sign Equals ▸ value) ▸ pairs
    ∷ string ▸ pairs
    ∷ star ▸ pairs
    ∷ [])
rows_behind statement_end =
    rows (
    name ▸ assign ▸ of expression ▸ semicolon
    ∷ optional (of name_end) ▸ repeated (of suffix) ▸ operators ▸ optional (assign ▸ of expression) ▸ semicolon
    ∷ [])
rows_behind otherwise = rows (of conditional ∷ of block ∷ [])
rows_behind opening =
    rows (
    prefixed Not (of unary)
    ∷ prefixed Minus (of unary)
    ∷ of constant ▸ repeated (of suffix)
    ∷ [])
rows_behind name_end =
    rows (
    colon ▸ name
    ∷ parentheses (optional (of arguments))
    ∷ [])
rows_behind _ = []
