-- A tree is what its outline says: its shape and its spans make its outline without the conditions, and that the tree.
use Rattle.std.proofs.Common.{◌≡◌, true, sym, ap, ◌∙◌}
use Rattle.slicc_ast.specs.declared.tree.item.Tree.{Tree}
use Rattle.slicc_ast.specs.Prelude.{is_allowed, shape_of, spans_of, tree}
use Rattle.slicc_files.proofs.Bare.{same_bare}
use Rattle.slicc_files.proofs.FromTrees.{tree_from, tree_again}

pub one_tree : (t u : Tree) → is_allowed (tree t) ≡ true → is_allowed (tree u) ≡ true → shape_of (tree t) ≡ shape_of (tree u) → spans_of (tree t) ≡ spans_of (tree u) → t ≡ u
one_tree t u allowed fine shapes spans =
    sym (tree_again t allowed) ∙ ap tree_from (same_bare (tree t) (tree u) shapes spans) ∙ tree_again u fine
