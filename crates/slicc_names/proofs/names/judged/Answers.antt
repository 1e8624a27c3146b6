use Rattle.std.proofs.Common.{IfOk, List, subst, ◌∙◌}
use Rattle.slicc_ast.specs.declared.tree.item.Tree.{Tree}
use Rattle.slicc_names.specs.Prelude.{AreNamesOrBroken}
use Rattle.slicc_names.proofs.names.judged.Goals as goal

pub returns : goal.returns
returns c =
    subst (λ (ts : List Tree). IfOk c.names_or_broken.result (AreNamesOrBroken ts)) (c.in_ok-scopes.ensures ∙ c.as_slice.ensures) c.names_or_broken.ensures
