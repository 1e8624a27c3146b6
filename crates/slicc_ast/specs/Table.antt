-- The grammar as it is read with one token ahead. It is the written one but for the forms some alternatives of which begin
-- alike: of these, what they have in common is read first, and a form beside those of the grammar has what may stand
-- behind it. Operators are read level by level behind their first operand. Both tables have the same lists of tokens.
use Rattle.std.specs.Prelude.{false, List, [], ◌∷◌}
use Rattle.slicc_ast.specs.declared.tree.token.Word.TheVariants.{Machine, Transition, Peek, Enqueue, StallAndWait, CheckAllocate, If, Else, Return, Error, Assert, Dprintf, AppendTransitionComment}
use Rattle.slicc_ast.specs.Grammar.{Row, Grammar}
use Rattle.slicc_ast.specs.Form.{Form}
use Rattle.slicc_ast.specs.Form.Form.{enumeration, states, structure, member, member_end, machine, machine_name, parameter, declaration, declaration_end, out_port, in_port, action, transition, transition_end, names, block, statement, statement_end, conditional, otherwise, expression, conjunction, equality, order, sum, unary, postfix, primary, constant, opening, name_end, suffix}
use Rattle.slicc_ast.specs.Parts.{◌▸◌, rows, of, optional, repeated, word, words, name, type, string, comma, colon, semicolon, assign, parentheses, braces, pairs, balanced, products, sums, orders, equalities, conjunctions, operators}
use Rattle.slicc_ast.specs.Ahead.{first_of_form, further_of_form}
use Rattle.slicc_ast.specs.Written.{written_rows, openers}

abbrev pub table_rows : Form → List (Row Form)
table_rows member = rows (type ▸ of member_end ∷ [])
table_rows machine =
    rows (
    word Machine ▸ parentheses (of machine_name ▸ comma ▸ string ▸ pairs) ▸ colon ▸ repeated (of parameter)
    ▸ braces (repeated (of declaration))
    ∷ [])
table_rows declaration =
    rows (
    of states
    ∷ of enumeration
    ∷ of structure
    ∷ of out_port
    ∷ of in_port
    ∷ of action
    ∷ of transition
    ∷ type ▸ of declaration_end
    ∷ [])
table_rows transition =
    rows (
    word Transition ▸ parentheses (of names ▸ comma ▸ of names ▸ optional (comma ▸ of transition_end))
    ▸ braces (repeated (name ▸ semicolon))
    ∷ [])
table_rows statement =
    rows (
    name ▸ of statement_end
    ∷ of opening ▸ operators ▸ optional (assign ▸ of expression) ▸ semicolon
    ∷ word Return ▸ optional (of expression) ▸ semicolon
    ∷ of conditional
    ∷ word Peek ▸ parentheses (name ▸ comma ▸ type ▸ pairs) ▸ of block
    ∷ word Enqueue ▸ parentheses (name ▸ comma ▸ type ▸ optional (comma ▸ of expression)) ▸ of block
    ∷ word StallAndWait ▸ parentheses (name ▸ comma ▸ of expression) ▸ semicolon
    ∷ word CheckAllocate ▸ parentheses name ▸ semicolon
    ∷ word Error ▸ parentheses string ▸ semicolon
    ∷ word Assert ▸ parentheses (of expression) ▸ semicolon
    ∷ words (Dprintf ∷ AppendTransitionComment ∷ []) ▸ parentheses balanced ▸ semicolon
    ∷ [])
table_rows conditional =
    rows (word If ▸ parentheses (of expression) ▸ of block ▸ optional (word Else ▸ of otherwise) ∷ [])
table_rows expression = rows (of unary ▸ operators ∷ [])
table_rows conjunction = rows (of unary ▸ products ▸ sums ▸ orders ▸ equalities ▸ conjunctions ∷ [])
table_rows equality = rows (of unary ▸ products ▸ sums ▸ orders ▸ equalities ∷ [])
table_rows order = rows (of unary ▸ products ▸ sums ▸ orders ∷ [])
table_rows sum = rows (of unary ▸ products ▸ sums ∷ [])
table_rows unary =
    rows (
    of opening
    ∷ name ▸ optional (of name_end) ▸ repeated (of suffix)
    ∷ [])
table_rows postfix =
    rows (
    of constant ▸ repeated (of suffix)
    ∷ name ▸ optional (of name_end) ▸ repeated (of suffix)
    ∷ [])
table_rows primary =
    rows (
    of constant
    ∷ name ▸ optional (of name_end)
    ∷ [])
table_rows form = written_rows form

abbrev pub table : Grammar Form
table =
    record {
      alternatives = table_rows;
      first = first_of_form;
      further = further_of_form;
      may_be_empty = λ form. false;
      openers = openers;
    }
