-- The parts of statements that are read by functions of their own, each with what it is spelled by.
use Rattle.std.specs.Prelude.{◌≡◌, ◌&&◌, ℕ, Bool, false, List, [], ◌∷◌, Option, Some, None}
use Rattle.slicc_ast.specs.declared.tree.declaration.Pairs.{Pairs}
use Rattle.slicc_ast.specs.declared.tree.expression.Expr.{Expr}
use Rattle.slicc_ast.specs.declared.tree.name.Name.{Name}
use Rattle.slicc_ast.specs.declared.tree.name.TypeName.{TypeName}
use Rattle.slicc_ast.specs.declared.tree.statement.Block.{Block}
use Rattle.slicc_ast.specs.declared.tree.statement.ElseIf.{ElseIf}
use Rattle.slicc_ast.specs.declared.tree.statement.PrintWord.{PrintWord}
use Rattle.slicc_ast.specs.declared.tree.statement.Stmt.{Stmt}
use Rattle.slicc_ast.specs.declared.tree.token.TokenKind.{TokenKind}
use Rattle.slicc_ast.specs.declared.tree.token.TokenKind.TheVariants.{Name as Named, Word}
use Rattle.slicc_ast.specs.declared.tree.token.Sign.{Sign}
use Rattle.slicc_ast.specs.declared.tree.token.Sign.TheVariants.{CloseBrace, OpenParenthesis, CloseParenthesis, Comma, Assign, Colon, Dot, OpenBracket, Star, Plus, Minus, Less, Greater, LessOrEqual, GreaterOrEqual, Equal, Unequal, And, Or, Semicolon}
use Rattle.slicc_ast.specs.declared.tree.token.Word.TheVariants.{Return, If, Else, Peek, Enqueue, StallAndWait, CheckAllocate, Error, Assert, Dprintf, AppendTransitionComment}
use Rattle.slicc_ast.specs.Declarations.{pairs as pairs_parts}
use Rattle.slicc_ast.specs.Prelude.{expr, type_name, Outline, node, none, Parts, part, latency_parts, print_word as print_word_of, stmt_list, has, is_ahead, expression, name_end, opening, otherwise, statement, ◌▸◌, comma, of, operators, optional, parentheses, repeated, semicolon, string, type, words, sign_kind, word_kind}
use Rattle.slicc_ast.specs.Names.{name as name_parts, sign as sign_of, word as word_of}
use Rattle.slicc_ast.specs.Outline.{token}
use Rattle.slicc_ast.specs.Statements.{block as block_parts}
use Rattle.slicc_ast.specs.Form.Form.{block, suffix}
use Rattle.slicc_ast.specs.Parts.{Part, balanced, name, pairs, sign, word}
use Rattle.slicc_lex.specs.declared.token.Token.{Token}
use Rattle.slicc_reading.specs.Prelude.{IsSpelledBefore, Leads}

-- a name by itself
abbrev pub name_outline : Name → Outline
name_outline n = node n.span (token (Named n.text) none)

-- an expression behind the name that it begins with, and one that doesn't begin with a name
abbrev pub value_end : Part
value_end = optional (of name_end) ▸ repeated (of suffix) ▸ operators

abbrev pub opening_value : Part
opening_value = of opening ▸ operators

-- a sign and an expression, as := expr
abbrev pub value_after : Sign → Part
value_after before = sign before ▸ of expression

abbrev pub value_after_parts : Sign → Expr → Parts → Parts
value_after_parts before value others = sign_of before (part (expr value) others)

-- what is behind the expression that a statement begins with
abbrev pub expression_end : Part
expression_end = optional (value_after Assign) ▸ semicolon

-- a name, a sign and an expression, as NAME := expr
abbrev pub named_value : Sign → Part
named_value between = name ▸ value_after between

abbrev pub named_value_parts : Sign → Name × Expr → Parts → Parts
named_value_parts between read others = name_parts read.0 (value_after_parts between read.1 others)

-- ( expr )
abbrev pub condition : Part
condition = parentheses (of expression)

abbrev pub condition_parts : Expr → Parts → Parts
condition_parts e others = sign_of OpenParenthesis (part (expr e) (sign_of CloseParenthesis others))

-- NAME , type
abbrev pub port_and_message : Part
port_and_message = name ▸ comma ▸ type

abbrev pub port_and_message_parts : Name × TypeName → Parts → Parts
port_and_message_parts read others = name_parts read.0 (sign_of Comma (type_name read.1 others))

-- peek ( NAME , type pairs )
abbrev pub peek_head : Part
peek_head = word Peek ▸ parentheses (port_and_message ▸ pairs)

abbrev pub peek_head_parts : (Name × TypeName) × Pairs → Parts → Parts
peek_head_parts read others =
    word_of Peek (sign_of OpenParenthesis (port_and_message_parts read.0 (pairs_parts read.1 (sign_of CloseParenthesis others))))

-- enqueue ( NAME , type [ , expr ] )
abbrev pub enqueue_head : Part
enqueue_head = word Enqueue ▸ parentheses (port_and_message ▸ optional (value_after Comma))

abbrev pub enqueue_head_parts : (Name × TypeName) × Option Expr → Parts → Parts
enqueue_head_parts read others =
    word_of Enqueue (sign_of OpenParenthesis (port_and_message_parts read.0 (latency_parts read.1 (sign_of CloseParenthesis others))))

-- the words of a text for a trace
abbrev pub print_word : Part
print_word = words (Dprintf ∷ AppendTransitionComment ∷ [])

abbrev pub print_kinds : List ℕ
print_kinds = word_kind Dprintf ∷ word_kind AppendTransitionComment ∷ []

abbrev pub IsPrintWord : TokenKind → PrintWord → Type 0
IsPrintWord kind which = kind ≡ Word (print_word_of which)

-- if ( expr ) block
abbrev pub branch : Part
branch = word If ▸ condition ▸ of block

abbrev pub branch_parts : Expr × Block → Parts → Parts
branch_parts read others = word_of If (condition_parts read.0 (block_parts read.1 others))

-- else if ( expr ) block
abbrev pub else_if_parts : ElseIf → Parts → Parts
else_if_parts e others = word_of Else (branch_parts (e.condition, e.then) others)

-- what is behind a branch, and the parts of a last block where there is one
abbrev pub branches_end : Part
branches_end = optional (word Else ▸ of otherwise)

abbrev pub last_parts : Option Block → Parts → Parts
last_parts None others = others
last_parts (Some last) others = word_of Else (block_parts last others)

-- further branches, and a last block where there is one
abbrev pub else_ifs_parts : List ElseIf → Parts → Parts
else_ifs_parts [] others = others
else_ifs_parts (first ∷ items) others = else_if_parts first (else_ifs_parts items others)

abbrev pub other_branches_parts : List ElseIf × Option Block → Parts → Parts
other_branches_parts read others = else_ifs_parts read.0 (last_parts read.1 others)

-- so many further branches are read, behind which branches may come as behind those before
pub record AreElseIfs (room : ℕ) (tokens : List Token) (items : List ElseIf) (now : List Token) : Type 0 where
  pub leads : Leads room branches_end tokens branches_end now
  pub spells : IsSpelledBefore (else_ifs_parts items) tokens now

-- the first two tokens are `else` and `if`
abbrev pub is_else_if : List ℕ → Bool
is_else_if [] = false
is_else_if (kind ∷ kinds) = has (word_kind Else ∷ []) kind && is_ahead (word_kind If ∷ []) kinds

-- what a statement goes on with behind a name, where it is no declaration
abbrev pub signs_behind_name : List ℕ
signs_behind_name =
    sign_kind Colon ∷ sign_kind OpenParenthesis ∷ sign_kind Dot ∷ sign_kind OpenBracket ∷ sign_kind Star ∷ sign_kind Plus
    ∷ sign_kind Minus ∷ sign_kind Less ∷ sign_kind Greater ∷ sign_kind LessOrEqual ∷ sign_kind GreaterOrEqual ∷ sign_kind Equal
    ∷ sign_kind Unequal ∷ sign_kind And ∷ sign_kind Or ∷ sign_kind Assign ∷ sign_kind Semicolon ∷ []

-- the words that statements begin with: those that hold blocks, and all
abbrev pub nesting_words : List ℕ
nesting_words = word_kind If ∷ word_kind Peek ∷ word_kind Enqueue ∷ []

abbrev pub calling_words : List ℕ
calling_words =
    word_kind StallAndWait ∷ word_kind CheckAllocate ∷ word_kind Error ∷ word_kind Assert ∷ print_kinds

abbrev pub statement_words : List ℕ
statement_words =
    word_kind Return ∷ word_kind If ∷ word_kind Peek ∷ word_kind Enqueue ∷ calling_words

-- statements and what closes their block
abbrev pub statements_end : Part
statements_end = repeated (of statement) ▸ sign CloseBrace

abbrev pub statements_parts : List Stmt → Parts → Parts
statements_parts items others = stmt_list items (sign_of CloseBrace others)

-- statements that hold a block, besides those with branches
abbrev pub peek_statement : Part
peek_statement = peek_head ▸ of block

abbrev pub enqueue_statement : Part
enqueue_statement = enqueue_head ▸ of block

-- return [ expr ] ;
abbrev pub return_form : Part
return_form = word Return ▸ optional (of expression) ▸ semicolon

-- WORD ( .. ) ;
abbrev pub stall_and_wait : Part
stall_and_wait = word StallAndWait ▸ parentheses (named_value Comma) ▸ semicolon

abbrev pub check_allocate : Part
check_allocate = word CheckAllocate ▸ parentheses name ▸ semicolon

abbrev pub error : Part
error = word Error ▸ parentheses string ▸ semicolon

abbrev pub assert : Part
assert = word Assert ▸ condition ▸ semicolon

abbrev pub print_statement : Part
print_statement = print_word ▸ parentheses balanced ▸ semicolon
