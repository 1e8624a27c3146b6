use Rattle.slicc_ast.specs.Declarations.{pair}
use Rattle.slicc_same.specs.Prelude.{same_shape}
use Rattle.slicc_same.proofs.Bools.{listed}
use Rattle.slicc_same.proofs.ItemLists.{pairs_alike}
use Rattle.slicc_same.proofs.declaration.same_pairs.Goals as goal

pub returns : goal.returns
returns c =
    listed (λ a b. same_shape (pair a) (pair b)) c.args.a.now.items c.args.b.now.items _ _ _ _ c.all_same.ensures c.deref.ensures c.deref-2.ensures
    (pairs_alike c.args.a.now.items c.args.b.now.items)
