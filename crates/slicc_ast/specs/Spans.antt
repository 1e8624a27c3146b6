-- The spans of the parts of a tree that are no nodes of their own.
use Rattle.std.specs.Prelude.{List, ◌∷◌, ◌++◌}
use Rattle.slicc_ast.specs.declared.tree.span.Span.{Span}
use Rattle.slicc_ast.specs.declared.tree.declaration.State.{State}
use Rattle.slicc_ast.specs.declared.tree.declaration.Symbol.{Symbol}
use Rattle.slicc_ast.specs.declared.tree.expression.Operand.{Operand}
use Rattle.slicc_ast.specs.declared.tree.expression.Suffix.{Suffix}
use Rattle.slicc_ast.specs.declared.tree.statement.ElseIf.{ElseIf}
use Rattle.slicc_ast.specs.Outline.{spans_of, spans_in}
use Rattle.slicc_ast.specs.Expressions.{expr, suffix}
use Rattle.slicc_ast.specs.Declarations.{pair_list}
use Rattle.slicc_ast.specs.Statements.{block_outline}

-- an operator, which is no node, and its operand
abbrev pub operand_spans : Operand → List Span
operand_spans o = spans_of (expr o.value)

abbrev pub suffix_spans : Suffix → List Span
suffix_spans s = spans_of (suffix s)

-- `else if ( expr ) block`
abbrev pub else_if_spans : ElseIf → List Span
else_if_spans e = spans_of (expr e.condition) ++ spans_of (block_outline e.then)

-- NAME pairs ;
abbrev pub symbol_spans : Symbol → List Span
symbol_spans s = s.name.span ∷ s.pairs.span ∷ spans_in (pair_list s.pairs.items)

-- NAME , NAME : NAME pairs ;
abbrev pub state_spans : State → List Span
state_spans s =
    s.name.span ∷ s.owner.span ∷ s.permission.span ∷ s.pairs.span ∷ spans_in (pair_list s.pairs.items)
