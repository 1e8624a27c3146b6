use Rattle.slicc_ast.specs.Declarations.{formal}
use Rattle.slicc_same.specs.Prelude.{same_shape}
use Rattle.slicc_same.proofs.Bools.{listed}
use Rattle.slicc_same.proofs.ItemLists.{formals_alike}
use Rattle.slicc_same.proofs.declaration.same_formals.Goals as goal

pub returns : goal.returns
returns c =
    listed (λ a b. same_shape (formal a) (formal b)) c.args.a.now.items c.args.b.now.items _ _ _ _ c.all_same.ensures c.deref.ensures c.deref-2.ensures
    (formals_alike c.args.a.now.items c.args.b.now.items)
