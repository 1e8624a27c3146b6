-- Trees that the same tokens spell have one outline, spans aside: a reader makes it of the tokens, and makes one.
use Rattle.std.proofs.Common.{◌≡◌, true, List, [], ◌∷◌, ◌++◌, sym, subst, ap, ◌∙◌}
use Rattle.slicc_ast.specs.declared.tree.token.TokenKind.{TokenKind}
use Rattle.slicc_ast.specs.declared.tree.token.TokenKind.TheVariants.{End}
use Rattle.slicc_ast.specs.declared.tree.expression.Expr.{Expr}
use Rattle.slicc_ast.specs.declared.tree.item.Tree.{Tree}
use Rattle.slicc_ast.specs.declared.tree.statement.Block.{Block}
use Rattle.slicc_ast.specs.Prelude.{Outline, node, none, no_span, kinds_of, is_allowed, shape_of, expr, block_outline, tree, done, end, Form}
use Rattle.slicc_ast.proofs.Building.{one_form_built}
use Rattle.slicc_ast.proofs.Building.Builds.{ended}
use Rattle.slicc_ast.proofs.Shapes.{Made, start, opened, with_token, with_part, plain, Makes, of, shaper}
use Rattle.slicc_ast.proofs.ShapesDecided.{shapes_decided}
use Rattle.slicc_ast.proofs.Making.{spelled, spelled-kinds, Forms}
use Rattle.slicc_ast.proofs.MakingExpressions.{expression_forms}
use Rattle.slicc_ast.proofs.MakingStatements.{whole_block_forms}
use Rattle.slicc_ast.proofs.MakingTrees.{tree_makes}

-- the outline that was made last
abbrev last_outline : Made → Outline
last_outline start = node no_span none
last_outline (opened made) = last_outline made
last_outline (with_token kind made) = last_outline made
last_outline (with_part outline made) = outline

one_outline : (n : Form) (tokens : List TokenKind) (a b : Made) → Makes (of n done) end tokens start a → Makes (of n done) end tokens start b → last_outline a ≡ last_outline b
one_outline n tokens a b m k = ap last_outline (one_form_built shaper shapes_decided (plain n) m k)

-- two nodes of one form
one_node : (n : Form) (o p : Outline) → Forms n o → Forms n p → is_allowed o ≡ true → is_allowed p ≡ true → kinds_of o ≡ kinds_of p → shape_of o ≡ shape_of p
one_node n o p f k allowed fine same =
    let tokens : spelled p [] ≡ spelled o [] = spelled-kinds p [] ∙ ap (λ ts. ts ++ []) (sym same) ∙ sym (spelled-kinds o []) in
    one_outline n (spelled o []) (with_part (shape_of o) start) (with_part (shape_of p) start)
    (f.makes allowed done end [] start (with_part (shape_of o) start) ended)
    (subst (λ ts. Makes (of n done) end ts start (with_part (shape_of p) start)) tokens (k.makes fine done end [] start (with_part (shape_of p) start) ended))

pub one_expression : (e f : Expr) → is_allowed (expr e) ≡ true → is_allowed (expr f) ≡ true → kinds_of (expr e) ≡ kinds_of (expr f) → shape_of (expr e) ≡ shape_of (expr f)
one_expression e f = one_node Form.expression (expr e) (expr f) (expression_forms e) (expression_forms f)

pub one_block : (b c : Block) → is_allowed (block_outline b) ≡ true → is_allowed (block_outline c) ≡ true → kinds_of (block_outline b) ≡ kinds_of (block_outline c) → shape_of (block_outline b) ≡ shape_of (block_outline c)
one_block b c = one_node Form.block (block_outline b) (block_outline c) (whole_block_forms b) (whole_block_forms c)

pub one_tree : (t u : Tree) → is_allowed (tree t) ≡ true → is_allowed (tree u) ≡ true → kinds_of (tree t) ≡ kinds_of (tree u) → shape_of (tree t) ≡ shape_of (tree u)
one_tree t u allowed fine same =
    let tokens : spelled (tree u) (End ∷ []) ≡ spelled (tree t) (End ∷ []) = spelled-kinds (tree u) (End ∷ []) ∙ ap (λ ts. ts ++ End ∷ []) (sym same) ∙ sym (spelled-kinds (tree t) (End ∷ [])) in
    one_outline Form.file (spelled (tree t) (End ∷ [])) (with_token End (with_part (shape_of (tree t)) start)) (with_token End (with_part (shape_of (tree u)) start))
    (tree_makes t allowed)
    (subst (λ ts. Makes (of Form.file done) end ts start (with_token End (with_part (shape_of (tree u)) start))) tokens (tree_makes u fine))
