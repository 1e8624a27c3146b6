-- Tokens spell one tree at most, spans aside: their kinds do.
use Rattle.std.proofs.Common.{◌≡◌, List, [], ◌∷◌, ◌++◌, sym, ap, ◌∙◌}
use Rattle.std.proofs.lemmas.List.{append_cancel_right, map-append}
use Rattle.slicc_ast.specs.declared.tree.token.TokenKind.TheVariants.{End}
use Rattle.slicc_ast.specs.declared.tree.expression.Expr.{Expr}
use Rattle.slicc_ast.specs.declared.tree.item.Tree.{Tree}
use Rattle.slicc_ast.specs.declared.tree.statement.Block.{Block}
use Rattle.slicc_ast.specs.Prelude.{kinds_in, shape_of, expr, block_outline, tree, tree_parts}
use Rattle.slicc_ast.proofs.OneTree.{one_tree, one_block, one_expression}
use Rattle.slicc_lex.specs.declared.token.Token.{Token}
use Rattle.slicc_lex.specs.Prelude.{Spells, SpellsNode, token_kinds}

-- the kinds of a file's tokens are those of its tree and the end's
kinds_of_file : (t : Tree) (tokens : List Token) → Spells t tokens → token_kinds tokens ≡ kinds_in (tree_parts t) ++ End ∷ []
kinds_of_file t tokens s =
    ap token_kinds s.split ∙ map-append (λ (token : Token). token.kind) s.written (s.end ∷ [])
    ∙ ap (λ ks. ks ++ s.end.kind ∷ []) s.kinds ∙ ap (λ k. kinds_in (tree_parts t) ++ k ∷ []) s.is_end

pub one_tree_spelled : (tokens : List Token) (t u : Tree) → Spells t tokens → Spells u tokens → shape_of (tree t) ≡ shape_of (tree u)
one_tree_spelled tokens t u s r =
    one_tree t u s.allowed r.allowed
    (append_cancel_right (kinds_in (tree_parts t)) (kinds_in (tree_parts u)) (End ∷ []) (sym (kinds_of_file t tokens s) ∙ kinds_of_file u tokens r))

pub one_block_spelled : (tokens : List Token) (b c : Block) → SpellsNode (block_outline b) tokens → SpellsNode (block_outline c) tokens → shape_of (block_outline b) ≡ shape_of (block_outline c)
one_block_spelled tokens b c s r = one_block b c s.allowed r.allowed (sym s.kinds ∙ r.kinds)

pub one_expression_spelled : (tokens : List Token) (e f : Expr) → SpellsNode (expr e) tokens → SpellsNode (expr f) tokens → shape_of (expr e) ≡ shape_of (expr f)
one_expression_spelled tokens e f s r = one_expression e f s.allowed r.allowed (sym s.kinds ∙ r.kinds)
